-- What is proved of the definitions.
use Rattle.std.specs.Prelude.{◌≡◌, ◌↔◌, ◌⊎◌, ℕ, ℤ, ◌≤ℤ◌, ◌<ℤ◌, Option, Some, None, Ok, Err}
use Rattle.curve_points.specs.Curve.{Curve}
use Rattle.desk_terms.specs.declared.cause.Cause.{Cause}
use Rattle.desk_terms.specs.declared.cause.Cause.TheVariants.{Unset, Empty, NoEngine, NoFixing, Before, Past, Pillar, Discount, Negative, RateRange, DateRange, TooLarge, Unpriced}
use Rattle.desk_terms.specs.Cause.{object_of}
use Rattle.flow_terms.specs.declared.indexes.IndexTerms.{IndexTerms}
use Rattle.flow_terms.specs.Fixings.{Stored, fixing_on}
use Rattle.rate_indexes.specs.Fixing.{fixing_of}

-- law: a rate that is stored for today or an earlier day is the answer there, whatever the curve
abbrev pub StoredWins : Type 0
StoredWins =
    (x : ℕ) (terms : IndexTerms) (fixings : Stored) (today day rate : ℤ) (curve : Option Curve)
    → day ≤ℤ today → fixing_on fixings day ≡ Some rate → fixing_of x terms fixings today day curve ≡ Ok rate

-- law: of a later day no stored rate plays a part
abbrev pub LaterIsForecast : Type 0
LaterIsForecast =
    (x : ℕ) (terms : IndexTerms) (fixings other : Stored) (today day : ℤ) (curve : Option Curve)
    → today <ℤ day → fixing_of x terms fixings today day curve ≡ fixing_of x terms other today day curve

-- law: where a curve is given there is no fixing exactly of a day before today without a stored rate
abbrev pub NoFixingIsExact : Type 0
NoFixingIsExact =
    (x : ℕ) (terms : IndexTerms) (fixings : Stored) (today day : ℤ) (curve : Curve)
    → (fixing_of x terms fixings today day (Some curve) ≡ Err (NoFixing x day))
    ↔ ((day <ℤ today) × (fixing_on fixings day ≡ None))

-- a cause that the index, or the owner of its curve, has no forecast
abbrev pub IsOfForecast : ℕ → ℕ → Cause → Type 0
IsOfForecast x owner (Unset o) = ⊥
IsOfForecast x owner (Empty o) = ⊥
IsOfForecast x owner (NoEngine o) = ⊥
IsOfForecast x owner (NoFixing o day) = ⊥
IsOfForecast x owner (Before o day) = o ≡ owner
IsOfForecast x owner (Past o day) = o ≡ owner
IsOfForecast x owner (Pillar o k) = ⊥
IsOfForecast x owner (Discount o k) = ⊥
IsOfForecast x owner (Negative o k) = ⊥
IsOfForecast x owner (RateRange o) = o ≡ x
IsOfForecast x owner (DateRange o) = o ≡ x
IsOfForecast x owner (TooLarge o) = ⊥
IsOfForecast x owner (Unpriced o) = ⊥

-- law: where a curve is given, each cause is that there is no fixing of the day, or one of the forecast
abbrev pub CausesAreOfFixings : Type 0
CausesAreOfFixings =
    (x : ℕ) (terms : IndexTerms) (fixings : Stored) (today day : ℤ) (curve : Curve) (cause : Cause)
    → fixing_of x terms fixings today day (Some curve) ≡ Err cause
    → (cause ≡ NoFixing x day) ⊎ IsOfForecast x curve.owner cause

-- law: so each names the index or the curve's owner
abbrev pub CausesName : Type 0
CausesName =
    (x : ℕ) (terms : IndexTerms) (fixings : Stored) (today day : ℤ) (curve : Curve) (cause : Cause)
    → fixing_of x terms fixings today day (Some curve) ≡ Err cause
    → (object_of cause ≡ x) ⊎ (object_of cause ≡ curve.owner)
