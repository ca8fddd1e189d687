-- The sum of single deltas by the rungs of a ladder is that of the prices.
use Rattle.std.proofs.Common.{◌≡◌, inl, inr, ℕ, ℤ, ◌==◌, Bool, true, false, List, [], ◌∷◌, ◌++◌, Option, None, Some, refl, ◌∙◌, ap, arith}
use Rattle.std.specs.Prelude.{map, if◌then◌else◌, ◌+ℤ◌, pos}
use Rattle.std.proofs.lemmas.Int.{ints}
use Rattle.std.specs.List.{All}
use Rattle.std.proofs.lemmas.Bool.Decides.{nat_tests}
use Rattle.std.proofs.lemmas.List.Elements.{All-nil, All-cons, All-head, All-tail, All-weaker}
use Rattle.walks.specs.Walk.{Among}
use Rattle.desk_terms.specs.Reading.{Calc}
use Rattle.desk_model.specs.Market.{Market}
use Rattle.bump_model.specs.declared.ladder.Bump.{Bump}
use Rattle.bump_model.specs.declared.ladder.Bump.TheVariants.{One}
use Rattle.bump_model.specs.declared.ladder.Rung.{Rung}
use Rattle.bump_model.specs.Moves.{value_at}
use Rattle.bump_model.specs.Sides.{rung_for, bump_rung, rungs_of}
use Rattle.tool_risk.specs.declared.figures.Figure.{Figure}
use Rattle.tool_risk.specs.Figures.{delta_of, delta_in}
use Rattle.tool_risk.specs.declared.figures.Figure.TheVariants.{Is, Unset, Up, Down}
use Rattle.tool_risk.specs.FigureSums.{and_figure, sum_figures, sum_of, is_label, delta_at, sum_at}
use Rattle.tool_risk.proofs.Prices.{rung_delta}

-- ---- figures one behind another

pub and_first : (sum : Figure) → and_figure (Is (pos 0)) sum ≡ sum
and_first (Is units) = ap Is (omega (arith, ints))
and_first Unset = refl
and_first (Up why) = refl
and_first (Down why) = refl

pub and_more : (units more : ℤ) (sum : Figure) → and_figure (Is (units +ℤ more)) sum ≡ and_figure (Is units) (and_figure (Is more) sum)
and_more units more (Is rest) = ap Is (omega (arith, ints))
and_more units more Unset = refl
and_more units more (Up why) = refl
and_more units more (Down why) = refl

-- ---- the rungs of quotes one by one

pub all_among : (xs : List ℕ) → All (λ q. Among q xs) xs
all_among [] = All-nil (λ q. Among q [])
all_among (x ∷ xs) =
    All-cons (λ q. Among q (x ∷ xs)) x xs (inl refl) (All-weaker (λ q. Among q xs) (λ q. Among q (x ∷ xs)) (λ q among. inr among) xs (all_among xs))

module _ (calc : Calc) (size : ℤ) (m : Market) (o : ℕ) (base : ℤ) (others : List Bump) where
  abbrev rungs_over : List ℕ → List Rung
  rungs_over all = rungs_of calc size m o base (map One all ++ others)

  label_is : (x : ℕ) (found : Option ℤ) → (rung_for calc size m o base x found).label ≡ Some x
  label_is x None = refl
  label_is x (Some value) = refl

  equal : (x q : ℕ) → (x == q) ≡ true → x ≡ q
  equal x q e = grind (arith, nat_tests)

  unequal : (x q : ℕ) → (x == q) ≡ false → q ≡ x → true ≡ false
  unequal x q e same = grind (arith, nat_tests)

  -- the first rung of a quote's is its own
  single_delta : (all : List ℕ) (q : ℕ) → Among q all → delta_at (rungs_over all) q ≡ delta_of calc size m o (One q)
  single_delta [] q among = absurd among
  single_delta (x ∷ all) q among =
      ap (λ (l : Option ℕ). if is_label l q then delta_in (bump_rung calc size m o base (One x)) else delta_at (rungs_over all) q)
      (label_is x (value_at m x))
      ∙ by (λ among. single_delta all q among) (x == q) refl
    where
      later : (x == q) ≡ false → Among q all
      later e = elim among [
        | inl same ↦ absurd (let none : true ≡ false = unequal x q e same in cc)
        | inr rest ↦ rest
      ]

      by : (Among q all → delta_at (rungs_over all) q ≡ delta_of calc size m o (One q)) → (b : Bool) → (x == q) ≡ b
          → (if b then delta_in (bump_rung calc size m o base (One x)) else delta_at (rungs_over all) q) ≡ delta_of calc size m o (One q)
      by rest true e = rung_delta calc size m o base (One x) ∙ ap (λ (y : ℕ). delta_of calc size m o (One y)) (equal x q e)
      by rest false e = rest (later e)

  module _ (all : List ℕ) where
    deltas : (quotes : List ℕ) → All (λ q. Among q all) quotes
        → map (delta_at (rungs_over all)) quotes ≡ map (λ q. delta_of calc size m o (One q)) quotes
    deltas [] among = refl
    deltas (q ∷ quotes) among =
        ap (λ (f : Figure). f ∷ map (delta_at (rungs_over all)) quotes) (single_delta all q (All-head (λ q. Among q all) q quotes among))
        ∙ ap (λ (l : List Figure). delta_of calc size m o (One q) ∷ l) (deltas quotes (All-tail (λ q. Among q all) q quotes among))

    pub rungs_sum : (quotes : List ℕ) → All (λ q. Among q all) quotes → sum_at (rungs_over all) quotes ≡ sum_of calc size m o quotes
    rungs_sum quotes among = ap sum_figures (deltas quotes among)
