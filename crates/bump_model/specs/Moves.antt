-- Quotes that are moved by a shift, in a market and in a state.
use Rattle.std.specs.Prelude.{◌≡◌, ℕ, ◌==◌, Bool, false, not, ◌&&◌, ◌||◌, List, [], ◌∷◌, length, ℤ, pos, neg_ℤ, ◌+ℤ◌, int_le, ◌^◌, Option, None, Some, slice_set}
use Rattle.std.specs.List.{list_any, All}
use Rattle.desk_terms.specs.declared.terms.Terms.TheVariants.{Quote}
use Rattle.desk_model.specs.declared.slot.Slot.TheVariants.{Live}
use Rattle.desk_terms.specs.declared.kind.Kind.TheVariants as kind
use Rattle.desk_model.specs.Market.{Market, slot_at, terms_at, kind_at}
use Rattle.desk_model.specs.Changeable.{Changeable, changeable}
use Rattle.desk_model.specs.Changeable.Changeable.{HasValue, HasTarget, HasFixings, HasParts, HasEngine, HasNone}
use Rattle.desk_model.specs.State.{State}
use Rattle.desk_model.specs.Effect.{quote_set}
use Rattle.bump_model.specs.declared.moves.Quoted.{Quoted}
use Rattle.bump_model.specs.declared.ladder.Bump.{Bump}
use Rattle.bump_model.specs.declared.ladder.Bump.TheVariants.{One, Together}

-- a value moved by a shift, up or down
abbrev pub moved : ℤ → ℤ → ℤ
moved shift value = value +ℤ shift

-- within the limit of rates: 10^18 units either way
abbrev pub is_rate : ℤ → Bool
is_rate units = int_le (neg_ℤ (pos (10 ^ 18))) units && int_le units (pos (10 ^ 18))

-- the value of a quote, and none of anything else
abbrev pub value_of : Changeable → Option ℤ
value_of (HasValue value) = value
value_of (HasTarget kind target) = None
value_of (HasFixings terms fixings) = None
value_of (HasParts parts) = None
value_of (HasEngine flows engine) = None
value_of HasNone = None

-- the value that a quote has in a market, if it has one
abbrev pub value_at : Market → ℕ → Option ℤ
value_at market q = value_of (changeable (terms_at market q))

abbrev pub quoted : ℕ → ℤ → Quoted
quoted q value = record { quote = q; value = value }

-- a quote with its value, where it has one, before others
abbrev pub and_quoted : ℕ → Option ℤ → List Quoted → List Quoted
and_quoted q None others = others
and_quoted q (Some value) others = quoted q value ∷ others

-- of these quotes those that have a value, each with it
abbrev pub quoted_in : Market → List ℕ → List Quoted
quoted_in market [] = []
quoted_in market (q ∷ quotes) = and_quoted q (value_at market q) (quoted_in market quotes)

-- a market in which a quote has this value
abbrev pub with_value : ℕ → ℤ → Market → Market
with_value q value market = record market { objects = slice_set market.objects q (Live (Quote (Some value))) }

-- a market in which each of these quotes has its value changed so
unfoldable pub with_values : (ℤ → ℤ) → List Quoted → Market → Market
with_values change [] market = market
with_values change (h ∷ group) market = with_values change group (with_value h.quote (change h.value) market)

-- a state after each of these quotes was set to its value changed so, in order
unfoldable pub all_set : (ℤ → ℤ) → List Quoted → State → State
all_set change [] state = state
all_set change (h ∷ group) state = all_set change group (quote_set h.quote (Some (change h.value)) state)

-- one of these quotes would pass the limit of rates
abbrev pub is_limit : ℤ → List Quoted → Bool
is_limit shift group = list_any (λ h. not (is_rate (moved shift h.value))) group

-- these are live quotes
abbrev pub AreQuotes : Market → List ℕ → Type 0
AreQuotes market quotes = All (λ q. kind_at market q ≡ Some kind.Quote) quotes

-- what is moved on each of these rungs are live quotes
abbrev pub IsBump : Market → Bump → Type 0
IsBump market (One q) = kind_at market q ≡ Some kind.Quote
IsBump market (Together label quotes) = AreQuotes market quotes

abbrev pub AreBumps : Market → List Bump → Type 0
AreBumps market bumps = All (IsBump market) bumps

-- each of these quotes has its value
abbrev pub AreQuoted : Market → List Quoted → Type 0
AreQuoted market group = All (λ h. terms_at market h.quote ≡ Some (Quote (Some h.value))) group

-- whether a quote is one of these
abbrev pub is_among : List Quoted → ℕ → Bool
is_among [] x = false
is_among (h ∷ group) x = (h.quote == x) || is_among group x

-- TWO MARKETS THAT DIFFER AT MOST IN THE VALUES OF THESE QUOTES
pub record DifferAt (group : List Quoted) (m n : Market) : Type 0 where
  pub today : n.today ≡ m.today
  pub long : length n.objects ≡ length m.objects
  pub kinds : (x : ℕ) → kind_at n x ≡ kind_at m x
  pub others : (x : ℕ) → is_among group x ≡ false → slot_at n x ≡ slot_at m x

-- each of these is a live quote
abbrev pub AreLive : Market → List Quoted → Type 0
AreLive market group = All (λ h. kind_at market h.quote ≡ Some kind.Quote) group
