-- A curve that starts on a day of its own takes no notice of the evaluation date.
use Rattle.std.specs.Prelude.{◌≡◌, ◌==◌, ℕ, true, false, ℤ, Option, Some}
use Rattle.curve_terms.specs.declared.terms.CurveTerms.{CurveTerms}
use Rattle.flow_terms.specs.declared.flows.FlowTerms.{FlowTerms}
use Rattle.desk_terms.specs.declared.terms.Terms.TheVariants.{Curve, Flows}
use Rattle.desk_terms.specs.Terms.{moves}
use Rattle.desk_model.specs.Market.{terms_at}
use Rattle.desk_model.specs.State.{State, kept_at}
use Rattle.desk_model.specs.Told.{told}
use Rattle.desk_model.specs.Links.{IsWhole, IsKinded}
use Rattle.desk_model.specs.Effect.{today_set}

-- law: a move of the evaluation date leaves all that is kept of such a curve as it is, so a value that was current stays
-- so
abbrev pub FixedCurvesStay : Type 0
FixedCurvesStay = (s : State) → IsWhole s → IsKinded s.market → (o : ℕ) (curve : CurveTerms) (day : ℤ)
    → terms_at s.market o ≡ Some (Curve curve) → moves curve.start ≡ false
    → kept_at (today_set day s) o ≡ kept_at s o

-- law: a notice from the evaluation date reaches each bond, swap and forward rate agreement, whatever its curve
abbrev pub FlowsAreTold : Type 0
FlowsAreTold = (s : State) → IsWhole s → (o : ℕ) (flows : FlowTerms) (engine : Option ℕ)
    → terms_at s.market o ≡ Some (Flows flows engine) → told s (λ y. y == 0) o ≡ true
