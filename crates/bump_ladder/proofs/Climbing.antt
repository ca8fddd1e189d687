-- The rungs of a ladder, one behind another.
use Rattle.std.proofs.Common.{◌≡◌, ℕ, ◌+◌, ◌<◌, List, [], ◌∷◌, ◌++◌, length, get_or, drop, Option, Some, ℤ, sym, ◌∙◌, ap, subst}
use Rattle.std.specs.Prelude.{map, neg_ℤ}
use Rattle.std.proofs.lemmas.List.{append-nil, append_assoc, drop_more}
use Rattle.std.proofs.lemmas.List.Elements.{All-head, All-tail}
use Rattle.desk_terms.specs.declared.kind.Kind.TheVariants.{Quote}
use Rattle.desk_terms.specs.Reading.{Calc}
use Rattle.desk_model.specs.Market.{Market, kind_at}
use Rattle.desk_model.specs.State.{State}
use Rattle.bump_model.specs.declared.moves.Quoted.{Quoted}
use Rattle.bump_model.specs.declared.ladder.Bump.{Bump}
use Rattle.bump_model.specs.declared.ladder.Rung.{Rung}
use Rattle.bump_model.specs.declared.ladder.Side.{Side}
use Rattle.bump_model.specs.Moves.{value_at, and_quoted, quoted_in, AreQuotes, AreQuoted, IsBump, AreBumps}
use Rattle.bump_model.specs.Sides.{side_of, rung_of, bump_rung}
use Rattle.bump_model.specs.Asking.{MadeFront, none, then_ask, bump_asking, rungs_asking}
use Rattle.bump_model.proofs.Calls.{Log, Did}
use Rattle.bump_model.proofs.Moving.{all_quoted}

pub next_item : {A : Type 0} (items : List A) (i : ℕ) (x : A) → i < length items → x ≡ get_or items i x
    → drop i items ≡ x ∷ drop (i + 1) items
next_item {A} items i x within is = drop_more items i x within ∙ ap (λ (y : A). y ∷ drop (i + 1) items) (sym is)

-- ---- quotes

module _ (all rest : List ℕ) (q : ℕ) (steps : all ≡ q ∷ rest) where
  pub quote_first : (m : Market) → AreQuotes m all → kind_at m q ≡ Some Quote
  quote_first m are = All-head (λ q. kind_at m q ≡ Some Quote) q rest (subst (λ (l : List ℕ). AreQuotes m l) steps are)

  pub quotes_rest : (m : Market) → AreQuotes m all → AreQuotes m rest
  quotes_rest m are = All-tail (λ q. kind_at m q ≡ Some Quote) q rest (subst (λ (l : List ℕ). AreQuotes m l) steps are)

  pub quoted_step : (m : Market) (value : Option ℤ) → value_at m q ≡ value → quoted_in m all ≡ and_quoted q value (quoted_in m rest)
  quoted_step m value is =
      ap (quoted_in m) steps ∙ ap (λ (v : Option ℤ). and_quoted q v (quoted_in m rest)) is

pub quoted_there : (m : Market) (quotes : List ℕ) (group : List Quoted) → group ≡ quoted_in m quotes → AreQuoted m group
quoted_there m quotes group is = subst (λ (l : List Quoted). AreQuoted m l) (sym is) (all_quoted m quotes)

-- ---- bumps

module _ (all rest : List Bump) (bump : Bump) (steps : all ≡ bump ∷ rest) where
  pub bump_first : (m n : Market) → n ≡ m → AreBumps m all → IsBump n bump
  bump_first m n same are =
      subst (λ (l : Market). IsBump l bump) (sym same)
      (All-head (IsBump m) bump rest (subst (λ (l : List Bump). AreBumps m l) steps are))

  pub bumps_rest : (m : Market) → AreBumps m all → AreBumps m rest
  bumps_rest m are = All-tail (IsBump m) bump rest (subst (λ (l : List Bump). AreBumps m l) steps are)

  pub asking_step : (calc : Calc) (size : ℤ) (m : Market) (o : ℕ) (s : State) → rungs_asking calc size m o all s
      ≡ then_ask (bump_asking calc size m o bump s) (rungs_asking calc size m o rest)
  unfolding rungs_asking
  asking_step calc size m o s = ap (λ (l : List Bump). rungs_asking calc size m o l s) steps

  pub rungs_step : (f : Bump → Rung) (before : List Rung) (rung : Rung) → rung ≡ f bump
      → (before ++ rung ∷ []) ++ map f rest ≡ before ++ map f all
  rungs_step f before rung is =
      append_assoc before (rung ∷ []) (map f rest)
      ∙ ap (λ (r : Rung). before ++ r ∷ map f rest) is
      ∙ ap (λ (l : List Bump). before ++ map f l) (sym steps)

pub asking_ended : (calc : Calc) (size : ℤ) (m : Market) (o : ℕ) (all : List Bump) (s : State) → all ≡ []
    → rungs_asking calc size m o all s ≡ none s
unfolding rungs_asking
asking_ended calc size m o all s is = ap (λ (l : List Bump). rungs_asking calc size m o l s) is

pub rungs_ended : (f : Bump → Rung) (rungs : List Rung) (all : List Bump) → all ≡ [] → rungs ≡ rungs ++ map f all
rungs_ended f rungs all is = sym (append-nil rungs) ∙ ap (λ (l : List Bump). rungs ++ map f l) (sym is)

-- facts of a call over the bench and the market of that moment, told of those at the start
module _ (calc k : Calc) (size : ℤ) (m n : Market) (o : ℕ) (bump : Bump) (same : k ≡ calc) (market : n ≡ m) where
  pub did_at : (s t : State) (count now : ℕ) (log log_now : Log)
      → Did (bump_asking k size n o bump s) t count now log log_now → Did (bump_asking calc size m o bump s) t count now log log_now
  did_at s t count now log log_now does =
      subst (λ (l : Market). Did (bump_asking calc size l o bump s) t count now log log_now) market
      (subst (λ (h : Calc). Did (bump_asking h size n o bump s) t count now log log_now) same does)

  pub front_at : (s : State) (count now : ℕ) (log log_now : Log) → MadeFront (bump_asking k size n o bump s).calls count now log log_now
      → MadeFront (bump_asking calc size m o bump s).calls count now log log_now
  front_at s count now log log_now made =
      subst (λ (l : Market). MadeFront (bump_asking calc size l o bump s).calls count now log log_now) market
      (subst (λ (h : Calc). MadeFront (bump_asking h size n o bump s).calls count now log log_now) same made)

  pub runs_at : (s : State) (runs : ℕ) → runs ≡ length (bump_asking k size n o bump s).calls
      → runs ≡ length (bump_asking calc size m o bump s).calls
  runs_at s runs is =
      is ∙ ap (λ (h : Calc). length (bump_asking h size n o bump s).calls) same
      ∙ ap (λ (l : Market). length (bump_asking calc size l o bump s).calls) market

  pub rung_at : (base : ℤ) (rung : Rung) → rung ≡ bump_rung k size n o base bump → rung ≡ bump_rung calc size m o base bump
  rung_at base rung is =
      is ∙ ap (λ (h : Calc). bump_rung h size n o base bump) same ∙ ap (λ (l : Market). bump_rung calc size l o base bump) market

-- ---- one rung

pub rung_is : (calc : Calc) (size : ℤ) (m : Market) (o : ℕ) (base : ℤ) (label : Option ℕ) (group : List Quoted) (up down : Side)
    → up ≡ side_of calc m o base size group → down ≡ side_of calc m o base (neg_ℤ size) group
    → record { label = label; up = up; down = down } ≡ rung_of calc size m o base label group
rung_is calc size m o base label group up down rises falls =
    ap (λ (u : Side). record { label = label; up = u; down = down }) rises
    ∙ ap (λ (d : Side). record { label = label; up = side_of calc m o base size group; down = d }) falls
