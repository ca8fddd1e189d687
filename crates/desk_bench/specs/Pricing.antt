-- The prices of this project.
use Rattle.std.specs.Prelude.{ℕ, List, [], ◌∷◌, ℤ, Option, Some, None, Result, Ok, Err, IsOk}
use Rattle.desk_terms.specs.declared.terms.Terms.{Terms}
use Rattle.desk_terms.specs.declared.terms.Terms.TheVariants.{Quote, Derived, Handle, Curve, Implied, Index, Engine, Stock, Composite, Flows}
use Rattle.desk_terms.specs.declared.bench.BenchFault.{BenchFault}
use Rattle.desk_terms.specs.declared.bench.BenchFault.TheVariants.{Refused, NoMemory}
use Rattle.desk_terms.specs.declared.value.Value.{Value}
use Rattle.desk_terms.specs.declared.value.Value.TheVariants.{Curve as CurveValue}
use Rattle.desk_terms.specs.declared.value.Input as input
use Rattle.curve_terms.specs.declared.terms.CurveStart.{CurveStart}
use Rattle.curve_terms.specs.declared.terms.CurveStart.TheVariants.{Moving, Fixed}
use Rattle.curve_terms.specs.declared.terms.CurveTerms.{CurveTerms}
use Rattle.curve_points.specs.Curve.{Curve as CurveView}
use Rattle.curve_points.specs.Implied.{implied_curve}
use Rattle.curve_points.specs.declared.seen.ImpliedFault.{ImpliedFault}
use Rattle.curve_points.specs.declared.seen.ImpliedFault.TheVariants as implied
use Rattle.curve_bootstrap.specs.Built.{curve_from, built_curve}
use Rattle.curve_bootstrap.specs.declared.faults.BuildFault.{BuildFault}
use Rattle.curve_bootstrap.specs.declared.faults.BuildFault.TheVariants as build
use Rattle.desk_terms.specs.declared.cause.Cause.{Cause}
use Rattle.desk_terms.specs.declared.cause.Cause.TheVariants.{Before, Past, Pillar, Discount, Negative, RateRange, DateRange, TooLarge}
use Rattle.desk_terms.specs.Reading.{Reading, Outcome, Calc}
use Rattle.discount_engines.specs.declared.faults.PriceFault.{PriceFault}
use Rattle.discount_engines.specs.declared.faults.PriceFault.TheVariants as engine
use Rattle.discount_engines.specs.Price.{instrument_price}

-- the rates among the inputs, in order
abbrev pub rates_of : List input.Input → List ℤ
rates_of [] = []
rates_of (input.TheVariants.Rate rate ∷ inputs) = rate ∷ rates_of inputs
rates_of (input.TheVariants.Money amount ∷ inputs) = rates_of inputs
rates_of (input.TheVariants.Curve curve ∷ inputs) = rates_of inputs

-- why the curve o is not built; no cause stands for want of memory
abbrev pub build_cause : ℕ → BuildFault → Option Cause
build_cause o (build.Pillar k) = Some (Pillar o k)
build_cause o (build.Discount k) = Some (Discount o k)
build_cause o (build.Negative k) = Some (Negative o k)
build_cause o build.RateRange = Some (RateRange o)
build_cause o build.DateRange = Some (DateRange o)
build_cause o build.NoMemory = None

-- why o is no curve seen from a day: the day is outside the base curve, which the cause names, or a node of o is out of
-- range
abbrev pub implied_cause : ℕ → ℕ → ℤ → ImpliedFault → Option Cause
implied_cause o base day implied.Before = Some (Before base day)
implied_cause o base day implied.Past = Some (Past base day)
implied_cause o base day (implied.Node k) = Some (Discount o k)
implied_cause o base day implied.NoMemory = None

-- a refusal by its cause (no definition gives want of memory)
abbrev pub refused : ℕ → Option Cause → Outcome
refused o (Some cause) = Err cause
refused o None = Err (TooLarge o)

-- the same as the answer of a bench
abbrev pub fault_of : Option Cause → BenchFault
fault_of (Some cause) = Refused cause
fault_of None = NoMemory

-- what a bench answers where a curve is built, or is not
abbrev pub built_answer : ℕ → Result CurveView BuildFault → Result Value BenchFault
built_answer o (Ok curve) = Ok (CurveValue curve)
built_answer o (Err fault) = Err (fault_of (build_cause o fault))

-- and where one is seen from a day, or is not
abbrev pub seen_answer : ℕ → ℕ → ℤ → Result CurveView ImpliedFault → Result Value BenchFault
seen_answer o base day (Ok curve) = Ok (CurveValue curve)
seen_answer o base day (Err fault) = Err (fault_of (implied_cause o base day fault))

-- a curve that is built, and one that is seen from another day
abbrev pub built : ℕ → Result CurveView BuildFault → Outcome
built o (Ok curve) = Ok (CurveValue curve)
built o (Err fault) = refused o (build_cause o fault)

abbrev pub seen : ℕ → ℕ → ℤ → Result CurveView ImpliedFault → Outcome
seen o base day (Ok curve) = Ok (CurveValue curve)
seen o base day (Err fault) = refused o (implied_cause o base day fault)

-- the reference day that needs no evaluation date
abbrev pub own_day : CurveStart → Option ℤ
own_day (Moving settlement) = None
own_day (Fixed day) = Some day

-- a curve of the rates of its helpers (QuantLib's `PiecewiseYieldCurve`)
abbrev pub curve_price : ℕ → CurveTerms → Option ℤ → List input.Input → Outcome
curve_price o terms None inputs = built o (curve_from o terms (rates_of inputs) (own_day terms.start))
curve_price o terms (Some today) inputs = built o (built_curve o terms today (rates_of inputs))

-- a curve seen from its own reference day (QuantLib's `ImpliedTermStructure`)
abbrev pub implied_price : ℕ → ℤ → List input.Input → Outcome
implied_price o reference (input.TheVariants.Curve curve ∷ []) =
    seen o curve.owner reference (implied_curve curve o reference)
implied_price o reference inputs = Err (TooLarge o)

-- what a bench answers where an instrument is priced, or is not
abbrev pub priced_answer : Result Value PriceFault → Result Value BenchFault
priced_answer (Ok value) = Ok value
priced_answer (Err (engine.Refused cause)) = Err (Refused cause)
priced_answer (Err engine.NoMemory) = Err NoMemory

-- THE PRICE by kind: a curve and an implied curve here, all others as instruments are priced, of which a quote, a sum, a
-- handle, an index and an engine are none
abbrev pub price_of : Terms → Reading → Outcome
price_of (Curve terms) reading = curve_price reading.object terms reading.today reading.inputs
price_of (Implied curve reference) reading = implied_price reading.object reference reading.inputs
price_of (Stock quote) reading = instrument_price reading
price_of (Composite parts) reading = instrument_price reading
price_of (Flows flows engine) reading = instrument_price reading
price_of (Quote value) reading = instrument_price reading
price_of (Derived minus first second) reading = instrument_price reading
price_of (Handle kind target) reading = instrument_price reading
price_of (Index terms fixings) reading = instrument_price reading
price_of (Engine curve) reading = instrument_price reading

-- THE CALC of this project's benches
abbrev pub desk_calc : Calc
desk_calc reading = price_of reading.terms reading

-- where a curve that o sees from a day may want memory: there is such a curve
abbrev pub MayWantSeen : ℕ → ℤ → List input.Input → Type 0
MayWantSeen o reference (input.TheVariants.Curve curve ∷ []) = IsOk (implied_curve curve o reference)
MayWantSeen o reference inputs = ⊥

-- where the price of o may want memory: a curve's, and that of a curve seen from a day; an instrument's takes none
abbrev pub MayWant : ℕ → Terms → List input.Input → Type 0
MayWant o (Curve terms) inputs = Unit {0}
MayWant o (Implied curve reference) inputs = MayWantSeen o reference inputs
MayWant o (Stock quote) inputs = ⊥
MayWant o (Composite parts) inputs = ⊥
MayWant o (Flows flows engine) inputs = ⊥
MayWant o (Quote value) inputs = ⊥
MayWant o (Derived minus first second) inputs = ⊥
MayWant o (Handle kind target) inputs = ⊥
MayWant o (Index terms fixings) inputs = ⊥
MayWant o (Engine curve) inputs = ⊥

-- want of memory is the answer of a bench only where it may be
abbrev pub WantsOnly : Type 0 → Result Value BenchFault → Type 0
WantsOnly May (Ok value) = Unit {0}
WantsOnly May (Err (Refused cause)) = Unit {0}
WantsOnly May (Err NoMemory) = May
