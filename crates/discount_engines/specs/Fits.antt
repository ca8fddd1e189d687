-- The prices of instruments are in the limits of a price, and their causes name what they may.
use Rattle.std.specs.Prelude.{◌≡◌, ◌⊎◌, ◌^◌, ℕ, Bool, true, false, List, [], ◌∷◌, length, ℤ, pos, neg_ℤ, ◌≤ℤ◌, ◌+ℤ◌, ◌-ℤ◌, ◌*ℤ◌, Option, Some, None, Result, Ok, Err, IfErr, int_lt, int_le, nat_le, unsigned_abs, ◌&&◌, if◌then◌else◌, T}
use Rattle.std.proofs.Common.{refl, sym, subst, inl, inr}
use Rattle.std.specs.Int.Signed.{le_z_yes}
use Rattle.std.specs.List.{filter}
use Rattle.std.specs.Ordering.{int_eq}
use Rattle.fixed_amount.specs.Rounding.{closest}
use Rattle.curve_points.specs.Curve.{Curve as CurveView}
use Rattle.curve_points.specs.Point.{discount_at}
use Rattle.curve_points.specs.declared.points.PointFault.{PointFault}
use Rattle.curve_points.specs.declared.points.PointFault.TheVariants as point
use Rattle.desk_terms.specs.declared.terms.Terms.{Terms}
use Rattle.desk_terms.specs.declared.terms.Part.{Part}
use Rattle.desk_terms.specs.declared.terms.Terms.TheVariants.{Quote, Derived, Handle, Curve, Implied, Index, Engine, Stock, Composite, Flows}
use Rattle.desk_terms.specs.declared.value.Value.TheVariants.{Money}
use Rattle.desk_terms.specs.declared.value.Input as input
use Rattle.desk_terms.specs.declared.cause.Cause.{Cause}
use Rattle.desk_terms.specs.declared.cause.Cause.TheVariants.{NoFixing, TooLarge, RateRange}
use Rattle.desk_terms.specs.Cause.{object_of}
use Rattle.desk_terms.specs.Point.{found_at}
use Rattle.desk_terms.specs.Reading.{Reading, IndexReading, Outcome, IsMoney, IsIndex, IsOwner, Fits}
use Rattle.flow_terms.specs.declared.flows.FlowTerm.{FlowTerm}
use Rattle.flow_terms.specs.declared.flows.FlowTerm.TheVariants.{Known, Float, Forward}
use Rattle.flow_terms.specs.declared.flows.FlowTerms.{FlowTerms}
use Rattle.flow_terms.specs.declared.indexes.IndexTerms.{IndexTerms}
use Rattle.flow_terms.specs.declared.limits.TheConstants.{MOST_RATE, MOST_AMOUNT}
use Rattle.flow_terms.specs.Fixings.{fixing_on}
use Rattle.flow_terms.specs.Flows.{paid_on, is_expired}
use Rattle.rate_indexes.specs.Period.{Period, period_at, period_of, or_date_range}
use Rattle.rate_indexes.specs.Forecast.{factor_or_cause, factor_at, simple_rate, rate_or_cause, forward_rate, on_value, rate_over, forecast_of}
use Rattle.rate_indexes.specs.Fixing.{fixing_of, stored_or, forecast_by}
use Rattle.cash_flow_legs.specs.Interest.{interest, whole}
use Rattle.cash_flow_legs.specs.Amount.{IndexView, rate_on, settlement, amount_or_cause, amount_of}
use Rattle.cash_flow_legs.specs.Live.{is_live}
use Rattle.discount_engines.specs.Money.{money_of}
use Rattle.discount_engines.specs.Stock.{stock_price}
use Rattle.discount_engines.specs.Composite.{weighted, money_or_none, composite_price}
use Rattle.discount_engines.specs.Worth.{factor_on, discounted, added, worth}
use Rattle.discount_engines.specs.Flows.{view_read, worth_over, value_of, value_over, discounted_price, flows_price}
use Rattle.discount_engines.specs.Price.{instrument_price}

-- an outcome of an instrument: money within the limits, or a cause that names what such a cause may
abbrev FitsBy : (Cause → Type 0) → Outcome → Type 0
FitsBy P (Ok value) = IsMoney value
FitsBy P (Err cause) = P cause

chosen : (P : Cause → Type 0) (o : ℕ) (units : ℤ) (low high : Bool) → P (TooLarge o) → (low ≡ true → neg_ℤ (pos (10 ^ 24)) ≤ℤ units) → (high ≡ true → units ≤ℤ pos (10 ^ 24))
    → FitsBy P (if low && high then Ok (Money units) else Err (TooLarge o))
chosen P o units true true own low high = (low refl, high refl)
chosen P o units true false own low high = own
chosen P o units false high_test own low high = own

money_fits : (P : Cause → Type 0) (o : ℕ) (units : ℤ) → P (TooLarge o) → FitsBy P (money_of o units)
money_fits P o units own = chosen P o units (int_le (neg_ℤ (pos (10 ^ 24))) units) (int_le units (pos (10 ^ 24))) own (λ e. le_z_yes (subst T (sym e) tt)) (λ e. le_z_yes (subst T (sym e) tt))

sum_fits : (P : Cause → Type 0) (o : ℕ) (sum : Option ℤ) → P (TooLarge o) → FitsBy P (money_or_none o sum)
sum_fits P o None own = own
sum_fits P o (Some units) own = money_fits P o units own

limited_fits : (P : Cause → Type 0) (o : ℕ) (outcome : Outcome) (is_limited : Bool) → P (TooLarge o) → FitsBy P outcome → FitsBy P (if is_limited then outcome else Err (TooLarge o))
limited_fits P o outcome true own fits = fits
limited_fits P o outcome false own fits = own

composite_fits : (P : Cause → Type 0) (o : ℕ) (parts : List Part) (inputs : List input.Input) → P (TooLarge o) → FitsBy P (composite_price o parts inputs)
composite_fits P o parts inputs own = limited_fits P o (money_or_none o (weighted parts inputs)) (nat_le (length parts) 4096) own (sum_fits P o (weighted parts inputs) own)

stock_fits : (P : Cause → Type 0) (o : ℕ) (inputs : List input.Input) → P (TooLarge o) → FitsBy P (stock_price o inputs)
stock_fits P o [] own = own
stock_fits P o (input.TheVariants.Money amount ∷ inputs) own = own
stock_fits P o (input.TheVariants.Curve curve ∷ inputs) own = own
stock_fits P o (input.TheVariants.Rate rate ∷ []) own = money_fits P o (closest rate 1000) own
stock_fits P o (input.TheVariants.Rate rate ∷ i ∷ inputs) own = own

-- what holds of the causes of a value and of a step holds of those of both
on_both : {A : Type 0} (P : Cause → Type 0) (step : A → Result ℤ Cause) (r : Result A Cause) → IfErr r P → ((a : A) → IfErr (step a) P) → IfErr (on_value step r) P
on_both P step (Ok a) first more = more a
on_both P step (Err cause) first more = first

-- the causes of a curve's factors name its owner
abbrev Owned : (Cause → Type 0) → ℕ → Type 0
Owned P owner = (cause : Cause) → object_of cause ≡ owner → P cause

factor_named : (P : Cause → Type 0) (owner : ℕ) (day : ℤ) (found : Result ℤ PointFault) → Owned P owner → IfErr (factor_or_cause owner day found) P
factor_named P owner day (Ok factor) named = tt
factor_named P owner day (Err point.Before) named = named _ refl
factor_named P owner day (Err point.Past) named = named _ refl

found_named : (P : Cause → Type 0) (owner : ℕ) (day : ℤ) (found : Result ℤ PointFault) → Owned P owner → IfErr (found_at owner day found) P
found_named P owner day (Ok factor) named = tt
found_named P owner day (Err point.Before) named = named _ refl
found_named P owner day (Err point.Past) named = named _ refl

period_named : (P : Cause → Type 0) (x : ℕ) (found : Option Period) → Owned P x → IfErr (or_date_range x found) P
period_named P x (Some period) named = tt
period_named P x None named = named _ refl

value_or : (P : Cause → Type 0) (value : ℤ) (cause : Cause) (b : Bool) → P cause → IfErr (if b then Ok value else Err cause) P
value_or P value cause true named = tt
value_or P value cause false named = named

refused_or : (P : Cause → Type 0) (cause : Cause) (r : Result ℤ Cause) (b : Bool) → P cause → IfErr r P → IfErr (if b then Err cause else r) P
refused_or P cause r true named other = named
refused_or P cause r false named other = other

period_of_named : (P : Cause → Type 0) (x : ℕ) (terms : IndexTerms) (day : ℤ) → Owned P x → IfErr (period_of x terms day) P
unfolding period_of
period_of_named P x terms day named = period_named P x (period_at terms day) named

forward_named : (P : Cause → Type 0) (x : ℕ) (first last parts : ℤ) → Owned P x → IfErr (forward_rate x first last parts) P
forward_named P x first last parts named =
    refused_or P (RateRange x) (rate_or_cause x (simple_rate first last parts)) (int_eq parts (pos 0)) (named _ refl)
    (value_or P (simple_rate first last parts) (RateRange x) (nat_le (unsigned_abs (simple_rate first last parts)) MOST_RATE) (named _ refl))

-- a forecast's causes name the index or the owner of its curve
forecast_named : (P : Cause → Type 0) (x : ℕ) (terms : IndexTerms) (day : ℤ) (curve : CurveView) → Owned P x → Owned P curve.owner → IfErr (forecast_of x terms day curve) P
unfolding forecast_of
forecast_named P x terms day curve index owner =
    on_both P (rate_over x curve) (period_of x terms day) (period_of_named P x terms day index)
    (λ period. on_both P (λ first. on_value (λ last. forward_rate x first last period.2) (factor_at curve period.1)) (factor_at curve period.0)
    (factor_named P curve.owner period.0 (discount_at curve period.0) owner)
    (λ first. on_both P (λ last. forward_rate x first last period.2) (factor_at curve period.1)
    (factor_named P curve.owner period.1 (discount_at curve period.1) owner)
    (λ last. forward_named P x first last period.2 index)))

abbrev OwnedBy : (Cause → Type 0) → Option CurveView → Type 0
OwnedBy P None = Unit {0}
OwnedBy P (Some curve) = Owned P curve.owner

forecast_by_named : (P : Cause → Type 0) (x : ℕ) (terms : IndexTerms) (day : ℤ) (curve : Option CurveView) → Owned P x → OwnedBy P curve → IfErr (forecast_by x terms day curve) P
forecast_by_named P x terms day None index owner = index _ refl
forecast_by_named P x terms day (Some curve) index owner = forecast_named P x terms day curve index owner

-- by the three questions: later than today, stored, before today
fixing_by : (P : Cause → Type 0) (x : ℕ) (day : ℤ) (later before : Bool) (stored : Option ℤ) (forecast : Result ℤ Cause) → Owned P x → IfErr forecast P
    → IfErr (if later then forecast else stored_or stored (if before then Err (NoFixing x day) else forecast)) P
fixing_by P x day true before stored forecast index named = named
fixing_by P x day false before (Some rate) forecast index named = tt
fixing_by P x day false true None forecast index named = index _ refl
fixing_by P x day false false None forecast index named = named

rate_named : (P : Cause → Type 0) (index : IndexView) (today : ℤ) (curve : Option CurveView) (day : ℤ) → Owned P index.object → OwnedBy P curve → IfErr (rate_on index today curve day) P
unfolding fixing_of
rate_named P index today curve day named owner =
    fixing_by P index.object day (int_lt today day) (int_lt day today) (fixing_on index.fixings day) (forecast_by index.object index.terms day curve) named
    (forecast_by_named P index.object index.terms day curve named owner)

settlement_named : (P : Cause → Type 0) (o : ℕ) (notional strike parts rate : ℤ) → Owned P o → IfErr (settlement o notional strike parts rate) P
settlement_named P o notional strike parts rate own =
    let growth = pos whole +ℤ rate *ℤ parts in
    let amount = closest (notional *ℤ (rate -ℤ strike) *ℤ parts) (unsigned_abs growth) in
    refused_or P (TooLarge o) (amount_or_cause o amount) (int_le growth (pos 0)) (own _ refl)
    (value_or P amount (TooLarge o) (nat_le (unsigned_abs amount) MOST_AMOUNT) (own _ refl))

abbrev IndexOwned : (Cause → Type 0) → Option IndexView → Type 0
IndexOwned P None = Unit {0}
IndexOwned P (Some index) = Owned P index.object

-- an amount's causes name the instrument, its index or the owner of the curve that this is forecast from
amount_named : (P : Cause → Type 0) (o : ℕ) (index : Option IndexView) (today : ℤ) (curve : Option CurveView) → Owned P o → IndexOwned P index → OwnedBy P curve
    → (flow : FlowTerm) → IfErr (amount_of index today curve o flow) P
amount_named P o None today curve own named owner (Known paid amount period) = tt
amount_named P o None today curve own named owner (Float paid notional spread parts fixing) = own _ refl
amount_named P o None today curve own named owner (Forward paid notional strike fixing) = own _ refl
amount_named P o (Some index) today curve own named owner (Known paid amount period) = tt
amount_named P o (Some index) today curve own named owner (Float paid notional spread parts fixing) =
    on_both P (λ rate. Ok (interest notional (rate +ℤ spread) parts)) (rate_on index today curve fixing) (rate_named P index today curve fixing named owner) (λ rate. tt)
amount_named P o (Some index) today curve own named owner (Forward paid notional strike fixing) =
    on_both P (λ rate. on_value (λ period. settlement o notional strike period.2 rate) (period_of index.object index.terms fixing)) (rate_on index today curve fixing)
    (rate_named P index today curve fixing named owner)
    (λ rate. on_both P (λ period. settlement o notional strike period.2 rate) (period_of index.object index.terms fixing)
    (period_of_named P index.object index.terms fixing named)
    (λ period. settlement_named P o notional strike period.2 rate own))

added_named : (P : Cause → Type 0) (units : ℤ) (r : Result ℤ Cause) → IfErr r P → IfErr (added units r) P
added_named P units (Ok rest) named = tt
added_named P units (Err cause) named = named

worth_named : (P : Cause → Type 0) (part : FlowTerm → Result ℤ Cause) → ((flow : FlowTerm) → IfErr (part flow) P) → (flows : List FlowTerm) → IfErr (worth part flows) P
unfolding worth
worth_named P part each [] = tt
worth_named P part each (flow ∷ flows) =
    on_both P (λ units. added units (worth part flows)) (part flow) (each flow) (λ units. added_named P units (worth part flows) (worth_named P part each flows))

value_fits : (P : Cause → Type 0) (o : ℕ) (r : Result ℤ Cause) → P (TooLarge o) → IfErr r P → FitsBy P (value_of o r)
value_fits P o (Ok units) own named = money_fits P o (closest units (10 ^ 12)) own
value_fits P o (Err cause) own named = named

over_fits : (P : Cause → Type 0) (o : ℕ) (flows : List FlowTerm) (today : ℤ) (index : Option IndexReading) (curve : CurveView) (forecast : Option CurveView)
    → Owned P o → IndexOwned P (view_read index) → Owned P curve.owner → OwnedBy P forecast → FitsBy P (value_over o flows today index curve forecast)
over_fits P o flows today index curve forecast own named owner other =
    let amount = amount_of (view_read index) today forecast o in
    value_fits P o (worth_over o flows today index curve forecast) (own _ refl)
    (worth_named P (discounted amount (factor_on curve))
    (λ flow. on_both P (λ units. on_value (λ discount. Ok (units *ℤ discount)) (factor_on curve (paid_on flow))) (amount flow)
    (amount_named P o (view_read index) today forecast own named other flow)
    (λ units. on_both P (λ discount. Ok (units *ℤ discount)) (factor_on curve (paid_on flow)) (found_named P curve.owner (paid_on flow) (discount_at curve (paid_on flow)) owner) (λ discount. tt)))
    (filter (is_live today curve.reference) flows))

-- a cause names the instrument, its index or the owner of an input curve
abbrev Named : ℕ → Option IndexReading → List input.Input → Cause → Type 0
Named o index inputs cause = (object_of cause ≡ o) ⊎ (IsIndex index (object_of cause) ⊎ IsOwner inputs (object_of cause))

index_named : (o : ℕ) (index : Option IndexReading) (inputs : List input.Input) → IndexOwned (Named o index inputs) (view_read index)
index_named o None inputs = tt
index_named o (Some index) inputs = λ cause is. inr (inl is)

discounted_fits : (o : ℕ) (flows : List FlowTerm) (today : ℤ) (index : Option IndexReading) (inputs : List input.Input) → FitsBy (Named o index inputs) (discounted_price o flows today index inputs)
discounted_fits o flows today index [] = inl refl
discounted_fits o flows today index (input.TheVariants.Money amount ∷ inputs) = inl refl
discounted_fits o flows today index (input.TheVariants.Rate rate ∷ inputs) = inl refl
discounted_fits o flows today index (input.TheVariants.Curve curve ∷ []) =
    let inputs = input.TheVariants.Curve curve ∷ [] in
    over_fits (Named o index inputs) o flows today index curve None (λ cause is. inl is) (index_named o index inputs) (λ cause is. inr (inr (inl is))) tt
discounted_fits o flows today index (input.TheVariants.Curve curve ∷ input.TheVariants.Money amount ∷ inputs) = inl refl
discounted_fits o flows today index (input.TheVariants.Curve curve ∷ input.TheVariants.Rate rate ∷ inputs) = inl refl
discounted_fits o flows today index (input.TheVariants.Curve curve ∷ input.TheVariants.Curve forecast ∷ []) =
    let inputs = input.TheVariants.Curve curve ∷ input.TheVariants.Curve forecast ∷ [] in
    over_fits (Named o index inputs) o flows today index curve (Some forecast) (λ cause is. inl is) (index_named o index inputs) (λ cause is. inr (inr (inl is))) (λ cause is. inr (inr (inr (inl is))))
discounted_fits o flows today index (input.TheVariants.Curve curve ∷ input.TheVariants.Curve forecast ∷ i ∷ inputs) = inl refl

expired_or : (P : Cause → Type 0) (outcome : Outcome) (b : Bool) → FitsBy P outcome → FitsBy P (if b then Ok (Money (pos 0)) else outcome)
expired_or P outcome true fits = (le_z_yes tt, le_z_yes tt)
expired_or P outcome false fits = fits

flows_fits : (o : ℕ) (flows : FlowTerms) (today : Option ℤ) (index : Option IndexReading) (inputs : List input.Input) → FitsBy (Named o index inputs) (flows_price o flows today index inputs)
flows_fits o flows None index inputs = inl refl
flows_fits o flows (Some today) index inputs =
    expired_or (Named o index inputs) (discounted_price o flows.flows today index inputs) (is_expired flows.flows today) (discounted_fits o flows.flows today index inputs)

abbrev reading_of : ℕ → Terms → Option ℤ → Option IndexReading → List input.Input → Reading
reading_of o terms today index inputs = record { object = o; terms = terms; inputs = inputs; today = today; index = index }

kind_fits : (o : ℕ) (terms : Terms) (today : Option ℤ) (index : Option IndexReading) (inputs : List input.Input)
    → Fits (reading_of o terms today index inputs) (instrument_price (reading_of o terms today index inputs))
kind_fits o (Quote value) today index inputs = inl refl
kind_fits o (Derived minus first second) today index inputs = inl refl
kind_fits o (Handle kind target) today index inputs = inl refl
kind_fits o (Curve terms) today index inputs = inl refl
kind_fits o (Implied curve reference) today index inputs = inl refl
kind_fits o (Index terms fixings) today index inputs = inl refl
kind_fits o (Engine curve) today index inputs = inl refl
kind_fits o (Stock quote) today index inputs = by_outcome (stock_price o inputs) (stock_fits (Named o index inputs) o inputs (inl refl))
  where
    by_outcome : (r : Outcome) → FitsBy (Named o index inputs) r → Fits (reading_of o (Stock quote) today index inputs) r
    by_outcome (Ok value) fits = fits
    by_outcome (Err cause) fits = fits
kind_fits o (Composite parts) today index inputs = by_outcome (composite_price o parts inputs) (composite_fits (Named o index inputs) o parts inputs (inl refl))
  where
    by_outcome : (r : Outcome) → FitsBy (Named o index inputs) r → Fits (reading_of o (Composite parts) today index inputs) r
    by_outcome (Ok value) fits = fits
    by_outcome (Err cause) fits = fits
kind_fits o (Flows flows engine) today index inputs = by_outcome (flows_price o flows today index inputs) (flows_fits o flows today index inputs)
  where
    by_outcome : (r : Outcome) → FitsBy (Named o index inputs) r → Fits (reading_of o (Flows flows engine) today index inputs) r
    by_outcome (Ok value) fits = fits
    by_outcome (Err cause) fits = fits

-- every price of an instrument fits its reading
pub price_fits : (reading : Reading) → Fits reading (instrument_price reading)
price_fits reading = kind_fits reading.object reading.terms reading.today reading.index reading.inputs
