-- The quotes of a market.
use Rattle.std.proofs.Common.{◌≡◌, ℕ, zero, suc, ◌+◌, ◌≤◌, ◌^◌, Bool, true, false, List, [], ◌∷◌, ◌++◌, length, Option, Some, None, refl, sym, ap, subst, arith}
use Rattle.std.specs.Prelude.{if◌then◌else◌}
use Rattle.std.proofs.lemmas.List.{append-nil, length-append}
use Rattle.std.proofs.lemmas.List.Elements.{All-nil, All-push}
use Rattle.desk_terms.specs.declared.kind.Kind as kind
use Rattle.desk_model.specs.Market.{Market, kind_at}
use Rattle.bump_model.specs.Moves.{AreQuotes}
use Rattle.bump_model.specs.Quotes.{is_quote, quote_by, quotes_below}

only_quote : (found : Option kind.Kind) → is_quote found ≡ true → found ≡ Some kind.TheVariants.Quote
only_quote None e = absurd (cc)
only_quote (Some kind.TheVariants.Today) e = absurd (cc)
only_quote (Some kind.TheVariants.Quote) e = refl
only_quote (Some kind.TheVariants.Derived) e = absurd (cc)
only_quote (Some kind.TheVariants.QuoteHandle) e = absurd (cc)
only_quote (Some kind.TheVariants.CurveHandle) e = absurd (cc)
only_quote (Some kind.TheVariants.Index) e = absurd (cc)
only_quote (Some kind.TheVariants.Engine) e = absurd (cc)
only_quote (Some kind.TheVariants.Curve) e = absurd (cc)
only_quote (Some kind.TheVariants.Implied) e = absurd (cc)
only_quote (Some kind.TheVariants.Stock) e = absurd (cc)
only_quote (Some kind.TheVariants.Composite) e = absurd (cc)
only_quote (Some kind.TheVariants.Flows) e = absurd (cc)
only_quote (Some kind.TheVariants.Watcher) e = absurd (cc)

-- one object more
pub quotes_next : (market : Market) (o : ℕ)
    → quotes_below market (o + 1) ≡ quotes_below market o ++ quote_by o (kind_at market o)
unfolding quotes_below
quotes_next market o = ap (quotes_below market) (let e : o + 1 ≡ suc o = omega arith in e)

pub quotes_none : (market : Market) → quotes_below market 0 ≡ []
unfolding quotes_below
quotes_none market = refl

-- they are live quotes, and no more than there are objects
module _ (market : Market) where
  with_next : (o : ℕ) (found : Bool) → is_quote (kind_at market o) ≡ found → AreQuotes market (quotes_below market o)
      → AreQuotes market (quotes_below market o ++ (if found then o ∷ [] else []))
  with_next o true is are =
      All-push (λ q. kind_at market q ≡ Some kind.TheVariants.Quote) (quotes_below market o) o are
      (only_quote (kind_at market o) is)
  with_next o false is are = rw (append-nil (quotes_below market o)) are

  quotes_first : (o : ℕ) → AreQuotes market (quotes_below market o)
  unfolding quotes_below
  quotes_first zero = All-nil (λ q. kind_at market q ≡ Some kind.TheVariants.Quote)
  quotes_first (suc o) = with_next o (is_quote (kind_at market o)) refl (quotes_first o)

  pub are_found : (o : ℕ) (quotes : List ℕ) → quotes ≡ quotes_below market o → AreQuotes market quotes
  are_found o quotes is = subst (λ (l : List ℕ). AreQuotes market l) (sym is) (quotes_first o)

  longer : (o : ℕ) (found : Bool) (quotes : List ℕ) → length quotes ≤ o
      → length (quotes ++ (if found then o ∷ [] else [])) ≤ suc o
  longer o true quotes few = let e = length-append quotes (o ∷ []) in omega (arith, few, e)
  longer o false quotes few = let e = ap length (append-nil quotes) in omega (arith, few, e)

  few_first : (o : ℕ) → length (quotes_below market o) ≤ o
  unfolding quotes_below
  few_first zero = omega arith
  few_first (suc o) = longer o (is_quote (kind_at market o)) (quotes_below market o) (few_first o)

  pub few_found : (o : ℕ) (quotes : List ℕ) → quotes ≡ quotes_below market o → o ≤ 2 ^ 16 → length quotes ≤ 2 ^ 16
  few_found o quotes is low = let few = few_first o in let same = ap length is in omega (arith, few, same, low)
