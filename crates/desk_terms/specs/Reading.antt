-- What a price depends on, and what it is.
use Rattle.std.specs.Prelude.{◌≡◌, ◌⊎◌, ℕ, ◌^◌, Bool, true, false, if◌then◌else◌, List, [], ◌∷◌, length, ℤ, pos, neg_ℤ, ◌≤ℤ◌, Option, Some, None, Result, Ok, Err}
use Rattle.std.specs.Borrow.{Bor}
use Rattle.desk_terms.specs.declared.terms.Terms.{Terms}
use Rattle.desk_terms.specs.declared.terms.Terms.TheVariants.{Quote, Derived, Handle, Curve, Implied, Index, Engine, Stock, Composite, Flows}
use Rattle.desk_terms.specs.declared.terms.Part.{Part}
use Rattle.curve_terms.specs.declared.terms.Helper.{Helper}
use Rattle.curve_terms.specs.Terms.{IsInRange}
use Rattle.flow_terms.specs.declared.indexes.IndexTerms.{IndexTerms}
use Rattle.flow_terms.specs.declared.indexes.IndexUse.{IndexUse}
use Rattle.flow_terms.specs.declared.flows.FlowTerms.{FlowTerms}
use Rattle.flow_terms.specs.Fixings.{Stored}
use Rattle.flow_terms.specs.Flows.{is_expired, needs_forecast}
use Rattle.flow_terms.specs.Ranges.{IsIndexInRange, AreFlowsInRange}
use Rattle.desk_terms.specs.declared.value.Value.{Value}
use Rattle.desk_terms.specs.declared.value.Value.TheVariants as value
use Rattle.desk_terms.specs.declared.value.Input as input
use Rattle.desk_terms.specs.declared.cause.Cause.{Cause}
use Rattle.desk_terms.specs.Cause.{object_of}
use Rattle.desk_terms.specs.declared.job.Job.{Job}
use Rattle.desk_terms.specs.declared.kind.Kind as kind
use Rattle.desk_terms.specs.Parts.{ArePartsInRange}
use Rattle.desk_terms.specs.Terms.{kind_of, prices_today}

-- a price, or why there is none
abbrev pub Outcome : Type 0
Outcome = Result Value Cause

-- the same of a value that is borrowed
abbrev pub outcome_in : Result (Bor Value) Cause → Outcome
outcome_in (Ok value) = Ok value.now
outcome_in (Err cause) = Err cause

-- an index as the price of an instrument sees it
pub record IndexReading : Type 0 where
  pub object : ℕ
  pub terms : IndexTerms
  pub fixings : Stored

-- All that the price of an object depends on: the object, its terms, its inputs in the order in which the terms name
-- them, the evaluation date for the terms that read it, and the index of flows that name one (what an instrument and
-- its engine see at one moment).
pub record Reading : Type 0 where
  pub object : ℕ
  pub terms : Terms
  pub inputs : List input.Input
  pub today : Option ℤ
  pub index : Option IndexReading

-- a way to price
abbrev pub Calc : Type 0
Calc = Reading → Outcome

-- the evaluation date, where the price of such terms reads it
abbrev pub day_read : Terms → ℤ → Option ℤ
day_read terms today = if prices_today terms then Some today else None

abbrev pub index_reading : Option IndexUse → Option IndexReading
index_reading None = None
index_reading (Some index) =
    Some (record { object = index.object; terms = index.terms.now; fixings = index.fixings.now })

-- what a job gives to read
abbrev pub reading_of : Job → Reading
reading_of job = record {
  object = job.object;
  terms = job.terms.now;
  inputs = job.inputs.now;
  today = day_read job.terms.now job.today;
  index = index_reading job.index;
}

-- as many amounts of money as parts
abbrev pub AreMoney : List Part → List input.Input → Type 0
AreMoney [] [] = Unit {0}
AreMoney [] (i ∷ inputs) = ⊥
AreMoney (part ∷ parts) [] = ⊥
AreMoney (part ∷ parts) (input.TheVariants.Money amount ∷ inputs) = AreMoney parts inputs
AreMoney (part ∷ parts) (input.TheVariants.Rate rate ∷ inputs) = ⊥
AreMoney (part ∷ parts) (input.TheVariants.Curve curve ∷ inputs) = ⊥

-- as many rates as helpers
abbrev pub AreRates : List Helper → List input.Input → Type 0
AreRates [] [] = Unit {0}
AreRates [] (i ∷ inputs) = ⊥
AreRates (helper ∷ helpers) [] = ⊥
AreRates (helper ∷ helpers) (input.TheVariants.Money amount ∷ inputs) = ⊥
AreRates (helper ∷ helpers) (input.TheVariants.Rate rate ∷ inputs) = AreRates helpers inputs
AreRates (helper ∷ helpers) (input.TheVariants.Curve curve ∷ inputs) = ⊥

abbrev pub IsRate : List input.Input → Type 0
IsRate [] = ⊥
IsRate (input.TheVariants.Money amount ∷ inputs) = ⊥
IsRate (input.TheVariants.Rate rate ∷ []) = Unit {0}
IsRate (input.TheVariants.Rate rate ∷ i ∷ inputs) = ⊥
IsRate (input.TheVariants.Curve curve ∷ inputs) = ⊥

abbrev pub IsCurve : List input.Input → Type 0
IsCurve [] = ⊥
IsCurve (input.TheVariants.Money amount ∷ inputs) = ⊥
IsCurve (input.TheVariants.Rate rate ∷ inputs) = ⊥
IsCurve (input.TheVariants.Curve curve ∷ []) = Unit {0}
IsCurve (input.TheVariants.Curve curve ∷ i ∷ inputs) = ⊥

-- curves alone
abbrev pub AreAllCurves : List input.Input → Type 0
AreAllCurves [] = Unit {0}
AreAllCurves (input.TheVariants.Money amount ∷ inputs) = ⊥
AreAllCurves (input.TheVariants.Rate rate ∷ inputs) = ⊥
AreAllCurves (input.TheVariants.Curve curve ∷ inputs) = AreAllCurves inputs

-- how many curves the price of flows takes: none where all are paid, else the discount curve, and the curve of the
-- index where it needs a forecast
abbrev pub curve_count : FlowTerms → ℤ → Option IndexReading → ℕ
curve_count flows today None = if is_expired flows.flows today then 0 else 1
curve_count flows today (Some index) =
    if is_expired flows.flows today
    then 0
    else if needs_forecast flows.flows index.fixings today
    then 2
    else 1

-- flows are read with the evaluation date, and with their index exactly where they name one
abbrev pub AreCurves : FlowTerms → Option ℤ → Option IndexReading → List input.Input → Type 0
AreCurves flows None index inputs = ⊥
AreCurves flows (Some today) index inputs = (length inputs ≡ curve_count flows today index) × AreAllCurves inputs

abbrev pub IsIndexOf : Option ℕ → Option IndexReading → Type 0
IsIndexOf None None = Unit {0}
IsIndexOf None (Some index) = ⊥
IsIndexOf (Some x) None = ⊥
IsIndexOf (Some x) (Some index) = index.object ≡ x

abbrev pub named_index : Terms → Option ℕ
named_index (Quote value) = None
named_index (Derived minus first second) = None
named_index (Handle kind target) = None
named_index (Curve terms) = None
named_index (Implied curve reference) = None
named_index (Index terms fixings) = None
named_index (Engine curve) = None
named_index (Stock quote) = None
named_index (Composite parts) = None
named_index (Flows flows engine) = flows.index

-- These inputs are what such terms ask for, in order and of the right kinds; nothing but lazy objects is priced.
abbrev pub AreInputsOf : Terms → Option ℤ → Option IndexReading → List input.Input → Type 0
AreInputsOf (Quote value) today index inputs = ⊥
AreInputsOf (Derived minus first second) today index inputs = ⊥
AreInputsOf (Handle kind target) today index inputs = ⊥
AreInputsOf (Curve terms) today index inputs = AreRates terms.helpers inputs
AreInputsOf (Implied curve reference) today index inputs = IsCurve inputs
AreInputsOf (Index terms fixings) today index inputs = ⊥
AreInputsOf (Engine curve) today index inputs = ⊥
AreInputsOf (Stock quote) today index inputs = IsRate inputs
AreInputsOf (Composite parts) today index inputs = AreMoney parts inputs
AreInputsOf (Flows flows engine) today index inputs = AreCurves flows today index inputs

-- the evaluation date is there exactly for the terms that read it
abbrev pub IsDayRead : Bool → Option ℤ → Type 0
IsDayRead true None = ⊥
IsDayRead true (Some today) = Unit {0}
IsDayRead false None = Unit {0}
IsDayRead false (Some today) = ⊥

-- the terms are in range: those of curves, of indexes, of composites and of flows are within their limits
abbrev pub AreInRange : Terms → Type 0
AreInRange (Quote value) = Unit {0}
AreInRange (Derived minus first second) = Unit {0}
AreInRange (Handle kind target) = Unit {0}
AreInRange (Curve terms) = IsInRange terms
AreInRange (Implied curve reference) = Unit {0}
AreInRange (Index terms fixings) = IsIndexInRange terms
AreInRange (Engine curve) = Unit {0}
AreInRange (Stock quote) = Unit {0}
AreInRange (Composite parts) = ArePartsInRange parts
AreInRange (Flows flows engine) = AreFlowsInRange flows

-- a reading that a bench may be asked for
pub record IsWellFormed (reading : Reading) : Type 0 where
  pub inputs : AreInputsOf reading.terms reading.today reading.index reading.inputs
  pub today : IsDayRead (prices_today reading.terms) reading.today
  pub index : IsIndexOf (named_index reading.terms) reading.index
  pub range : AreInRange reading.terms

-- the object of a reading, its index, or the owner of an input curve
abbrev pub IsIndex : Option IndexReading → ℕ → Type 0
IsIndex None o = ⊥
IsIndex (Some index) o = o ≡ index.object

abbrev pub IsOwner : List input.Input → ℕ → Type 0
IsOwner [] o = ⊥
IsOwner (input.TheVariants.Money amount ∷ inputs) o = IsOwner inputs o
IsOwner (input.TheVariants.Rate rate ∷ inputs) o = IsOwner inputs o
IsOwner (input.TheVariants.Curve curve ∷ inputs) o = (o ≡ curve.owner) ⊎ IsOwner inputs o

abbrev pub IsNamedBy : Reading → ℕ → Type 0
IsNamedBy reading o = (o ≡ reading.object) ⊎ (IsIndex reading.index o ⊎ IsOwner reading.inputs o)

-- money within 10^24 units either way
abbrev pub IsMoney : Value → Type 0
IsMoney (value.Money amount) = (neg_ℤ (pos (10 ^ 24)) ≤ℤ amount) × (amount ≤ℤ pos (10 ^ 24))
IsMoney (value.Curve curve) = ⊥

-- a curve of this owner
abbrev pub IsCurveOf : ℕ → Value → Type 0
IsCurveOf o (value.Money amount) = ⊥
IsCurveOf o (value.Curve curve) = curve.owner ≡ o

-- what the object o of a kind may be worth: a curve its own curve, an instrument money; the others have no value
abbrev pub IsValueOf : kind.Kind → ℕ → Value → Type 0
IsValueOf kind.TheVariants.Today o value = ⊥
IsValueOf kind.TheVariants.Quote o value = ⊥
IsValueOf kind.TheVariants.Derived o value = ⊥
IsValueOf kind.TheVariants.QuoteHandle o value = ⊥
IsValueOf kind.TheVariants.CurveHandle o value = ⊥
IsValueOf kind.TheVariants.Index o value = ⊥
IsValueOf kind.TheVariants.Engine o value = ⊥
IsValueOf kind.TheVariants.Curve o value = IsCurveOf o value
IsValueOf kind.TheVariants.Implied o value = IsCurveOf o value
IsValueOf kind.TheVariants.Stock o value = IsMoney value
IsValueOf kind.TheVariants.Composite o value = IsMoney value
IsValueOf kind.TheVariants.Flows o value = IsMoney value
IsValueOf kind.TheVariants.Watcher o value = ⊥

-- A price within the limits of this project's profile: a value that such an object may have, and a cause that names the
-- object that was asked for, its index, or the owner of an input curve.
abbrev pub Fits : Reading → Outcome → Type 0
Fits reading (Ok value) = IsValueOf (kind_of reading.terms) reading.object value
Fits reading (Err cause) = IsNamedBy reading (object_of cause)

-- a way to price of which each well-formed reading's price fits
abbrev pub IsFitting : Calc → Type 0
IsFitting calc = (reading : Reading) → IsWellFormed reading → Fits reading (calc reading)
