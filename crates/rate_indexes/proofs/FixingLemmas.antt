-- The rate of an index on a day, by cases.
use Rattle.std.proofs.Common.{◌≡◌, ◌↔◌, ◌⊎◌, inl, inr, arith, refl, ap, subst, Bool, true, false, ℕ, ℤ, pos, ◌≤ℤ◌, ◌<ℤ◌, int_lt, nat_le, unsigned_abs, Option, Some, None, Result, Ok, Err, if◌then◌else◌}
use Rattle.std.proofs.lemmas.Int.{ints}
use Rattle.std.specs.Ordering.{int_eq}
use Rattle.curve_points.specs.Curve.{Curve}
use Rattle.curve_points.specs.Point.{discount_at}
use Rattle.curve_points.specs.declared.points.PointFault as point
use Rattle.desk_terms.specs.declared.cause.Cause.{Cause}
use Rattle.desk_terms.specs.declared.cause.Cause.TheVariants.{Unset, Empty, NoEngine, NoFixing, Before, Past, Pillar, Discount, Negative, RateRange, DateRange, TooLarge, Unpriced}
use Rattle.desk_terms.specs.Cause.{object_of}
use Rattle.flow_terms.specs.declared.indexes.IndexTerms.{IndexTerms}
use Rattle.flow_terms.specs.declared.limits.TheConstants.{MOST_RATE}
use Rattle.flow_terms.specs.Fixings.{Stored, fixing_on}
use Rattle.rate_indexes.specs.Period.{Period, period_at, period_of, or_date_range}
use Rattle.rate_indexes.specs.Forecast.{factor_or_cause, factor_at, simple_rate, rate_or_cause, forward_rate, on_value, rate_over, forecast_of}
use Rattle.rate_indexes.specs.Fixing.{fixing_of, stored_or}
use Rattle.rate_indexes.specs.Laws.{IsOfForecast}

not_before : (a b : ℤ) → a ≤ℤ b → int_lt b a ≡ false
not_before a b h = grind (arith, ints)

is_before : (a b : ℤ) → a <ℤ b → int_lt a b ≡ true
is_before a b h = grind (arith, ints)

before_is : (a b : ℤ) → int_lt a b ≡ true → a <ℤ b
before_is a b h = grind (arith, ints)

pub stored_wins : (x : ℕ) (terms : IndexTerms) (fixings : Stored) (today day rate : ℤ) (curve : Option Curve)
    → day ≤ℤ today → fixing_on fixings day ≡ Some rate → fixing_of x terms fixings today day curve ≡ Ok rate
unfolding fixing_of
stored_wins x terms fixings today day rate curve past found = rw (not_before day today past, found) refl

pub later_is_forecast : (x : ℕ) (terms : IndexTerms) (fixings other : Stored) (today day : ℤ) (curve : Option Curve)
    → today <ℤ day → fixing_of x terms fixings today day curve ≡ fixing_of x terms other today day curve
unfolding fixing_of
later_is_forecast x terms fixings other today day curve later = rw (is_before today day later) refl

-- what holds of the causes of a value and of a step holds of those of both
on_cause : {A : Type 0} (P : Cause → Type 0) (step : A → Result ℤ Cause) (r : Result A Cause) → ((c : Cause) → r ≡ Err c → P c) → ((a : A) (c : Cause) → step a ≡ Err c → P c) → (cause : Cause) → on_value step r ≡ Err cause → P cause
on_cause P step (Ok a) first more cause is = more a cause is
on_cause P step (Err c) first more cause is =
    let same : c ≡ cause = cc in
    subst P same (first c refl)

period_cause : (x owner : ℕ) (found : Option Period) (cause : Cause) → or_date_range x found ≡ Err cause → IsOfForecast x owner cause
period_cause x owner (Some period) cause is = absurd (cc)
period_cause x owner None cause is =
    let same : DateRange x ≡ cause = cc in
    subst (λ (c : Cause). IsOfForecast x owner c) same refl

factor_cause : (x owner : ℕ) (day : ℤ) (found : Result ℤ point.PointFault) (cause : Cause) → factor_or_cause owner day found ≡ Err cause → IsOfForecast x owner cause
factor_cause x owner day (Ok factor) cause is = absurd (cc)
factor_cause x owner day (Err point.TheVariants.Before) cause is =
    let same : Before owner day ≡ cause = cc in
    subst (λ (c : Cause). IsOfForecast x owner c) same refl
factor_cause x owner day (Err point.TheVariants.Past) cause is =
    let same : Past owner day ≡ cause = cc in
    subst (λ (c : Cause). IsOfForecast x owner c) same refl

chosen_cause : (x owner : ℕ) (rate : ℤ) (b : Bool) (cause : Cause) → (if b then Ok rate else Err (RateRange x)) ≡ Err cause → IsOfForecast x owner cause
chosen_cause x owner rate true cause is = absurd (cc)
chosen_cause x owner rate false cause is =
    let same : RateRange x ≡ cause = cc in
    subst (λ (c : Cause). IsOfForecast x owner c) same refl

forward_cause : (x owner : ℕ) (rate : ℤ) (b : Bool) (cause : Cause) → (if b then Err (RateRange x) else rate_or_cause x rate) ≡ Err cause → IsOfForecast x owner cause
forward_cause x owner rate true cause is =
    let same : RateRange x ≡ cause = cc in
    subst (λ (c : Cause). IsOfForecast x owner c) same refl
forward_cause x owner rate false cause is = chosen_cause x owner rate (nat_le (unsigned_abs rate) MOST_RATE) cause is

forecast_cause : (x : ℕ) (terms : IndexTerms) (day : ℤ) (curve : Curve) (cause : Cause) → forecast_of x terms day curve ≡ Err cause → IsOfForecast x curve.owner cause
unfolding forecast_of period_of
forecast_cause x terms day curve cause is =
    let P = λ (c : Cause). IsOfForecast x curve.owner c in
    on_cause P (rate_over x curve) (period_of x terms day) (period_cause x curve.owner (period_at terms day))
    (λ period. on_cause P (λ first. on_value (λ last. forward_rate x first last period.2) (factor_at curve period.1)) (factor_at curve period.0)
    (factor_cause x curve.owner period.0 (discount_at curve period.0))
    (λ first. on_cause P (λ last. forward_rate x first last period.2) (factor_at curve period.1)
    (factor_cause x curve.owner period.1 (discount_at curve period.1))
    (λ last. forward_cause x curve.owner (simple_rate first last period.2) (int_eq period.2 (pos 0)))))
    cause is

-- by the three questions: later than today, stored, before today
fixing_cause : (x owner : ℕ) (day : ℤ) (later before : Bool) (stored : Option ℤ) (forecast : Result ℤ Cause) (cause : Cause) → ((c : Cause) → forecast ≡ Err c → IsOfForecast x owner c)
    → (if later then forecast else stored_or stored (if before then Err (NoFixing x day) else forecast)) ≡ Err cause
    → ((cause ≡ NoFixing x day) × (before ≡ true) × (stored ≡ None)) ⊎ IsOfForecast x owner cause
fixing_cause x owner day true before stored forecast cause of_forecast is = inr (of_forecast cause is)
fixing_cause x owner day false before (Some rate) forecast cause of_forecast is = absurd (cc)
fixing_cause x owner day false true None forecast cause of_forecast is =
    let same : cause ≡ NoFixing x day = cc in
    inl (same, refl, refl)
fixing_cause x owner day false false None forecast cause of_forecast is = inr (of_forecast cause is)

caused : (x : ℕ) (terms : IndexTerms) (fixings : Stored) (today day : ℤ) (curve : Curve) (cause : Cause) → fixing_of x terms fixings today day (Some curve) ≡ Err cause
    → ((cause ≡ NoFixing x day) × (int_lt day today ≡ true) × (fixing_on fixings day ≡ None)) ⊎ IsOfForecast x curve.owner cause
unfolding fixing_of
caused x terms fixings today day curve cause is =
    fixing_cause x curve.owner day (int_lt today day) (int_lt day today) (fixing_on fixings day) (forecast_of x terms day curve) cause (forecast_cause x terms day curve) is

pub causes_are : (x : ℕ) (terms : IndexTerms) (fixings : Stored) (today day : ℤ) (curve : Curve) (cause : Cause) → fixing_of x terms fixings today day (Some curve) ≡ Err cause
    → (cause ≡ NoFixing x day) ⊎ IsOfForecast x curve.owner cause
causes_are x terms fixings today day curve cause is = by (caused x terms fixings today day curve cause is)
  where
    by : (((cause ≡ NoFixing x day) × (int_lt day today ≡ true) × (fixing_on fixings day ≡ None)) ⊎ IsOfForecast x curve.owner cause) → (cause ≡ NoFixing x day) ⊎ IsOfForecast x curve.owner cause
    by (inl none) = inl none.0
    by (inr of_forecast) = inr of_forecast

forecast_names : (x owner : ℕ) (cause : Cause) → IsOfForecast x owner cause → (object_of cause ≡ x) ⊎ (object_of cause ≡ owner)
forecast_names x owner (Unset o) is = absurd is
forecast_names x owner (Empty o) is = absurd is
forecast_names x owner (NoEngine o) is = absurd is
forecast_names x owner (NoFixing o day) is = absurd is
forecast_names x owner (Before o day) is = inr is
forecast_names x owner (Past o day) is = inr is
forecast_names x owner (Pillar o k) is = absurd is
forecast_names x owner (Discount o k) is = absurd is
forecast_names x owner (Negative o k) is = absurd is
forecast_names x owner (RateRange o) is = inl is
forecast_names x owner (DateRange o) is = inl is
forecast_names x owner (TooLarge o) is = absurd is
forecast_names x owner (Unpriced o) is = absurd is

pub causes_name : (x : ℕ) (terms : IndexTerms) (fixings : Stored) (today day : ℤ) (curve : Curve) (cause : Cause) → fixing_of x terms fixings today day (Some curve) ≡ Err cause
    → (object_of cause ≡ x) ⊎ (object_of cause ≡ curve.owner)
causes_name x terms fixings today day curve cause is = by (causes_are x terms fixings today day curve cause is)
  where
    by : ((cause ≡ NoFixing x day) ⊎ IsOfForecast x curve.owner cause) → (object_of cause ≡ x) ⊎ (object_of cause ≡ curve.owner)
    by (inl none) = inl (ap object_of none)
    by (inr of_forecast) = forecast_names x curve.owner cause of_forecast

no_fixing_back : (x : ℕ) (terms : IndexTerms) (fixings : Stored) (today day : ℤ) (curve : Option Curve) → day <ℤ today → fixing_on fixings day ≡ None → fixing_of x terms fixings today day curve ≡ Err (NoFixing x day)
unfolding fixing_of
no_fixing_back x terms fixings today day curve before none =
    let not_later : int_lt today day ≡ false = grind (arith, ints) in
    rw (not_later, none, is_before day today before) refl

pub no_fixing_is_exact : (x : ℕ) (terms : IndexTerms) (fixings : Stored) (today day : ℤ) (curve : Curve)
    → (fixing_of x terms fixings today day (Some curve) ≡ Err (NoFixing x day)) ↔ ((day <ℤ today) × (fixing_on fixings day ≡ None))
no_fixing_is_exact x terms fixings today day curve =
    (λ is. by (caused x terms fixings today day curve (NoFixing x day) is), λ h. no_fixing_back x terms fixings today day (Some curve) h.0 h.1)
  where
    by : (((NoFixing x day ≡ NoFixing x day) × (int_lt day today ≡ true) × (fixing_on fixings day ≡ None)) ⊎ IsOfForecast x curve.owner (NoFixing x day)) → (day <ℤ today) × (fixing_on fixings day ≡ None)
    by (inl none) = (before_is day today none.1, none.2)
    by (inr of_forecast) = absurd of_forecast
