-- The rows of a ladder's rungs are those of the prices.
use Rattle.std.proofs.Common.{◌≡◌, ℕ, ℤ, List, [], ◌∷◌, ◌++◌, Option, None, Some, Result, refl, sym, ◌∙◌, ap, subst, codes}
use Rattle.std.specs.Prelude.{map}
use Rattle.std.specs.List.{All}
use Rattle.std.proofs.lemmas.List.{append_assoc}
use Rattle.std.proofs.lemmas.List.Elements.{All-head, All-tail, All-map, All-filter, All-append}
use Rattle.walks.specs.Walk.{Among}
use Rattle.desk_terms.specs.declared.cause.Cause.{Cause}
use Rattle.desk_terms.specs.Reading.{Calc}
use Rattle.desk_model.specs.Market.{Market}
use Rattle.desk_model.specs.State.{State}
use Rattle.bump_model.specs.declared.ladder.Bump.{Bump}
use Rattle.bump_model.specs.declared.ladder.Bump.TheVariants.{One, Together}
use Rattle.bump_model.specs.declared.ladder.Ladder.{Ladder}
use Rattle.bump_model.specs.declared.ladder.Rung.{Rung}
use Rattle.bump_model.specs.Moves.{value_at}
use Rattle.bump_model.specs.Quotes.{stands_on, beneath}
use Rattle.bump_model.specs.Sides.{worth, rung_for, bump_rung, rungs_of}
use Rattle.bump_model.specs.Asking.{IsLadder, IsRefused, none, then_ask, ladder_asking}
use Rattle.tool_risk.specs.declared.figures.Figure.{Figure}
use Rattle.tool_risk.specs.Figures.{delta_of, gamma_of, delta_in, gamma_in}
use Rattle.tool_risk.proofs.Prices.{rung_delta, rung_gamma}
use Rattle.tool_risk.specs.FigureSums.{sum_of, beyond, sum_at}
use Rattle.tool_risk.proofs.FigureSumming.{all_among, rungs_sum}
use Rattle.tool_risk.proofs.Shifts.{All-of}
use Rattle.tool_risk.specs.Curves.{curves_in}
use Rattle.tool_risk.specs.Asking.{quotes_of, shift_of, bumps_in, theta_behind, instrument_asking}
use Rattle.tool_risk.specs.Lines.{label_of, figure_row, rung_rows, sum_rows, sum_rows_at, rungs_rows, shift_rows, bump_rows, bumps_rows, worth_row, ladder_rows, theta_row, refused_row, text_by}
use Rattle.tool_risk.specs.Theta.{theta_of, theta_asking}

-- the sum by these rungs is that of the prices
abbrev IsSummed : Calc → ℤ → Market → ℕ → List Rung → Bump → Type 0
IsSummed calc size m o all (One q) = Unit {0}
IsSummed calc size m o all (Together label quotes) = sum_at all quotes ≡ sum_of calc size m o quotes

module _ (calc : Calc) (size : ℤ) (m : Market) (names : List (List ℕ)) (of_object : List ℕ) (o : ℕ) (base : ℤ) where
  quote_label : (q : ℕ) (found : Option ℤ) → (rung_for calc size m o base q found).label ≡ Some q
  quote_label q None = refl
  quote_label q (Some value) = refl

  rung_label : (bump : Bump) → (bump_rung calc size m o base bump).label ≡ label_of bump
  rung_label (One q) = quote_label q (value_at m q)
  rung_label (Together label quotes) = refl

  figures_rung : (bump : Bump) → rung_rows names of_object o (bump_rung calc size m o base bump)
      ≡ figure_row names of_object o (codes "delta") (label_of bump) (delta_of calc size m o bump)
      ++ figure_row names of_object o (codes "gamma") (label_of bump) (gamma_of calc size m o base bump)
  unfolding rung_rows
  figures_rung bump =
      ap (λ (l : Option ℕ). figure_row names of_object o (codes "delta") l (delta_in (bump_rung calc size m o base bump))
      ++ figure_row names of_object o (codes "gamma") l (gamma_in (bump_rung calc size m o base bump))) (rung_label bump)
      ∙ ap (λ (f : Figure). figure_row names of_object o (codes "delta") (label_of bump) f
      ++ figure_row names of_object o (codes "gamma") (label_of bump) (gamma_in (bump_rung calc size m o base bump))) (rung_delta calc size m o base bump)
      ∙ ap (λ (f : Figure). figure_row names of_object o (codes "delta") (label_of bump) (delta_of calc size m o bump)
      ++ figure_row names of_object o (codes "gamma") (label_of bump) f) (rung_gamma calc size m o base bump)

  module _ (all : List Rung) where
    sums_rung : (bump : Bump) → IsSummed calc size m o all bump
        → sum_rows_at names of_object o all bump (bump_rung calc size m o base bump) ≡ shift_rows calc size m names of_object o bump
    unfolding sum_rows_at shift_rows
    sums_rung (One q) summed = refl
    sums_rung (Together label quotes) summed =
        ap (λ (f : Figure). sum_rows names of_object o label f (beyond (delta_in (bump_rung calc size m o base (Together label quotes))) f)) summed
        ∙ ap (λ (f : Figure). sum_rows names of_object o label (sum_of calc size m o quotes) (beyond f (sum_of calc size m o quotes)))
        (rung_delta calc size m o base (Together label quotes))

    one_rung : (bump : Bump) → IsSummed calc size m o all bump
        → rung_rows names of_object o (bump_rung calc size m o base bump) ++ sum_rows_at names of_object o all bump (bump_rung calc size m o base bump)
        ≡ bump_rows calc size m names of_object o base bump
    unfolding bump_rows
    one_rung bump summed =
        ap (λ (l : List ℕ). l ++ sum_rows_at names of_object o all bump (bump_rung calc size m o base bump)) (figures_rung bump)
        ∙ ap (λ (l : List ℕ). (figure_row names of_object o (codes "delta") (label_of bump) (delta_of calc size m o bump)
        ++ figure_row names of_object o (codes "gamma") (label_of bump) (gamma_of calc size m o base bump)) ++ l) (sums_rung bump summed)

    all_rungs : (bumps : List Bump) → All (IsSummed calc size m o all) bumps
        → rungs_rows names of_object o all bumps (rungs_of calc size m o base bumps) ≡ bumps_rows calc size m names of_object o base bumps
    unfolding rungs_rows bumps_rows
    all_rungs [] summed = refl
    all_rungs (bump ∷ bumps) summed =
        ap (λ (l : List ℕ). l ++ rungs_rows names of_object o all bumps (rungs_of calc size m o base bumps))
        (one_rung bump (All-head (IsSummed calc size m o all) bump bumps summed))
        ∙ ap (λ (l : List ℕ). bump_rows calc size m names of_object o base bump ++ l)
        (all_rungs bumps (All-tail (IsSummed calc size m o all) bump bumps summed))

  -- the sums are over quotes that are moved one by one before
  shifts_summed : (cs : List ℕ) (others : List Bump) → All (IsSummed calc size m o (rungs_of calc size m o base (map One (quotes_of m o) ++ others)))
      (map (shift_of m (quotes_of m o)) cs)
  shifts_summed cs others =
      All-map (IsSummed calc size m o (rungs_of calc size m o base (map One (quotes_of m o) ++ others))) (shift_of m (quotes_of m o)) cs
      (All-of (λ c. IsSummed calc size m o (rungs_of calc size m o base (map One (quotes_of m o) ++ others)) (shift_of m (quotes_of m o) c))
      (λ c. rungs_sum calc size m o base others (quotes_of m o) (beneath m c (quotes_of m o))
      (All-filter (stands_on m c) (λ q. Among q (quotes_of m o)) (quotes_of m o) (all_among (quotes_of m o)))) cs)

  all_summed : All (IsSummed calc size m o (rungs_of calc size m o base (bumps_in m o))) (bumps_in m o)
  all_summed =
      let all = rungs_of calc size m o base (bumps_in m o) in
      All-append (IsSummed calc size m o all) (map One (quotes_of m o)) (map (shift_of m (quotes_of m o)) (curves_in m o))
      (All-map (IsSummed calc size m o all) One (quotes_of m o) (All-of (λ q. IsSummed calc size m o all (One q)) (λ q. tt) (quotes_of m o)))
      (shifts_summed (curves_in m o) (map (shift_of m (quotes_of m o)) (curves_in m o)))

-- ---- what is written of an instrument

module _ (calc : Calc) (size : ℤ) (names : List (List ℕ)) (of_object : List ℕ) (o : ℕ) (s t : State) (bumps : List Bump)
    (same : t ≡ s) (are : bumps ≡ bumps_in s.market o) where
  pub asking_over : ladder_asking calc size o bumps t ≡ ladder_asking calc size o (bumps_in s.market o) s
  asking_over =
      ap (λ (u : State). ladder_asking calc size o bumps u) same
      ∙ ap (λ (b : List Bump). ladder_asking calc size o b s) are

  pub ladder_text : (answer : Ladder) → IsLadder calc size o bumps t answer → (k : Calc) → k ≡ calc → (n : Market) → n ≡ s.market
      → (old rows new : List ℕ) → rows ≡ old ++ ladder_rows names of_object o answer.base bumps answer.rungs
      → new ≡ rows ++ theta_row names of_object o (theta_of k n o answer.base)
      → new ≡ old ++ text_by calc size s.market names of_object o (worth calc s.market o)
  unfolding ladder_rows
  ladder_text answer is k kept n stays old rows new first behind =
      let theta = theta_row names of_object o (theta_of calc s.market o answer.base) in
      behind
      ∙ ap (λ (h : Calc). rows ++ theta_row names of_object o (theta_of h n o answer.base)) kept
      ∙ ap (λ (m : Market). rows ++ theta_row names of_object o (theta_of calc m o answer.base)) stays
      ∙ ap (λ (l : List ℕ). l ++ theta) (first ∙ ap (λ (l : List ℕ). old ++ l) figures)
      ∙ append_assoc old (worth_row names of_object o answer.base ++ bumps_rows calc size s.market names of_object o answer.base (bumps_in s.market o)) theta
      ∙ ap (λ (r : Result ℤ Cause). old ++ text_by calc size s.market names of_object o r) (sym here.base)
    where
      here : IsLadder calc size o bumps s answer
      here = subst (λ (u : State). IsLadder calc size o bumps u answer) same is

      figures : ladder_rows names of_object o answer.base bumps answer.rungs
          ≡ worth_row names of_object o answer.base ++ bumps_rows calc size s.market names of_object o answer.base (bumps_in s.market o)
      figures =
          ap (λ (l : List Bump). worth_row names of_object o answer.base ++ rungs_rows names of_object o answer.rungs l answer.rungs) are
          ∙ ap (λ (l : List Rung). worth_row names of_object o answer.base ++ rungs_rows names of_object o l (bumps_in s.market o) l)
          (here.rungs ∙ ap (λ (b : List Bump). rungs_of calc size s.market o answer.base b) are)
          ∙ ap (λ (l : List ℕ). worth_row names of_object o answer.base ++ l)
          (all_rungs calc size s.market names of_object o answer.base (rungs_of calc size s.market o answer.base (bumps_in s.market o)) (bumps_in s.market o)
          (all_summed calc size s.market names of_object o answer.base))

  -- the asks behind the ladder's: those for a theta, and none where the instrument is worth nothing
  pub asking_worth : (answer : Ladder) → IsLadder calc size o bumps t answer
      → instrument_asking calc size o s ≡ then_ask (ladder_asking calc size o (bumps_in s.market o) s) (theta_asking calc size o)
  unfolding instrument_asking
  asking_worth answer is =
      ap (λ (r : Result ℤ Cause). then_ask (ladder_asking calc size o (bumps_in s.market o) s) (theta_behind calc size o r))
      (ap (λ (u : State). worth calc u.market o) (sym same) ∙ is.base)

  pub asking_refused : (cause : Cause) (runs : ℕ) → IsRefused calc size o bumps t cause runs
      → instrument_asking calc size o s ≡ then_ask (ladder_asking calc size o (bumps_in s.market o) s) none
  unfolding instrument_asking
  asking_refused cause runs is =
      ap (λ (r : Result ℤ Cause). then_ask (ladder_asking calc size o (bumps_in s.market o) s) (theta_behind calc size o r))
      (ap (λ (u : State). worth calc u.market o) (sym same) ∙ is.base)

  pub refused_text : (cause : Cause) (runs : ℕ) → IsRefused calc size o bumps t cause runs
      → refused_row names of_object o cause ≡ text_by calc size s.market names of_object o (worth calc s.market o)
  refused_text cause runs is =
      ap (λ (r : Result ℤ Cause). text_by calc size s.market names of_object o r)
      (sym (ap (λ (u : State). worth calc u.market o) (sym same) ∙ is.base))
