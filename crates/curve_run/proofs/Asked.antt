-- The prices of curves, one behind another.
use Rattle.std.proofs.Common.{◌≡◌, ℕ, ◌+◌, ◌<◌, true, List, [], ◌∷◌, ◌++◌, length, get_or, drop, Result, refl, sym, ◌∙◌, ap, subst}
use Rattle.std.proofs.lemmas.List.{drop_more}
use Rattle.std.proofs.lemmas.List.Elements.{All-head, All-tail}
use Rattle.curve_points.specs.Curve.{Curve}
use Rattle.desk_terms.specs.declared.cause.Cause.{Cause}
use Rattle.desk_terms.specs.declared.kind.Wanted.TheVariants.{CurveTarget}
use Rattle.desk_terms.specs.Reading.{Calc}
use Rattle.desk_model.specs.Links.{serves_as, is_lazy_at}
use Rattle.desk_model.specs.Market.{Market, kind_at}
use Rattle.bump_ladder.specs.Curves.{curve_at}
use Rattle.curve_run.specs.Named.{AreCurves}
use Rattle.curve_run.specs.Pricing.{curve_in, refused_in, curves_of, refused_lines}
use Rattle.curve_run.proofs.Served.{curve_lazy}

-- ---- the next of several

pub next_object : (objects : List ℕ) (i o : ℕ) → i < length objects → o ≡ get_or objects i o → drop i objects ≡ o ∷ drop (i + 1) objects
next_object objects i o within is = drop_more objects i o within ∙ ap (λ (x : ℕ). x ∷ drop (i + 1) objects) (sym is)

module _ (all rest : List ℕ) (o : ℕ) (steps : all ≡ o ∷ rest) where
  pub first_lazy : (m n : Market) → n ≡ m → AreCurves m all → is_lazy_at n o ≡ true
  first_lazy m n same are =
      ap (λ (l : Market). is_lazy_at l o) same
      ∙ curve_lazy m o (All-head (λ o. serves_as (kind_at m o) CurveTarget ≡ true) o rest (subst (λ (l : List ℕ). AreCurves m l) steps are))

  pub rest_curves : (m : Market) → AreCurves m all → AreCurves m rest
  rest_curves m are = All-tail (λ o. serves_as (kind_at m o) CurveTarget ≡ true) o rest (subst (λ (l : List ℕ). AreCurves m l) steps are)

-- what is told over the bench and the market of that moment, told of those at the start
pub value_then : (calc k : Calc) (m n : Market) (o : ℕ) (value : Result Curve Cause) → k ≡ calc → n ≡ m
    → value ≡ curve_at k n o → value ≡ curve_at calc m o
value_then calc k m n o value same market is =
    is ∙ ap (λ (h : Calc). curve_at h n o) same ∙ ap (λ (l : Market). curve_at calc l o) market

-- ---- the first of several, and none

pub curves_first : (calc : Calc) (m : Market) (o : ℕ) (objects : List ℕ)
    → curves_of calc m (o ∷ objects) ≡ curve_in (curve_at calc m o) ++ curves_of calc m objects
unfolding curves_of
curves_first calc m o objects = refl

pub curves_last : (calc : Calc) (m : Market) → curves_of calc m [] ≡ []
unfolding curves_of
curves_last calc m = refl

pub lines_first : (calc : Calc) (m : Market) (names : List (List ℕ)) (of_object : List ℕ) (o : ℕ) (objects : List ℕ)
    → refused_lines calc m names of_object (o ∷ objects)
    ≡ refused_in names of_object o (curve_at calc m o) ++ refused_lines calc m names of_object objects
unfolding refused_lines
lines_first calc m names of_object o objects = refl

pub lines_last : (calc : Calc) (m : Market) (names : List (List ℕ)) (of_object : List ℕ) → refused_lines calc m names of_object [] ≡ []
unfolding refused_lines
lines_last calc m names of_object = refl
