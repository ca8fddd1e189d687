-- The curve of its terms (QuantLib's PiecewiseYieldCurve, DepositRateHelper and SwapRateHelper).
use Rattle.std.specs.Prelude.{◌≡◌, ℕ, suc, Bool, false, ℤ, pos, List, [], ◌∷◌, ◌++◌, Option, Some, None, is_some, Result, Ok, Err, if◌then◌else◌}
use Rattle.std.specs.Result.{is_ok}
use Rattle.day_number.specs.declared.tenors.Unit.TheVariants.{Days}
use Rattle.day_number.specs.declared.tenors.Tenor.{Tenor}
use Rattle.day_number.specs.declared.conventions.Convention.TheVariants.{Following}
use Rattle.year_parts.specs.declared.counters.Counter.{Counter}
use Rattle.day_counters.specs.Counter.{frac}
use Rattle.holiday_calendars.specs.declared.calendars.Calendar.{Calendar}
use Rattle.holiday_calendars.specs.Calendar.{is_business_day}
use Rattle.day_shift.specs.Adjusted.{adjusted}
use Rattle.day_shift.specs.Advanced.{advanced}
use Rattle.schedule_rules.specs.Step.{units_on}
use Rattle.schedule_rules.specs.declared.plans.Plan.{Plan}
use Rattle.schedule_rules.specs.declared.plans.Rule.TheVariants.{Backward}
use Rattle.schedule_rules.specs.declared.faults.PlanFault.{PlanFault}
use Rattle.schedule_rules.specs.declared.faults.PlanFault.TheVariants.{Collapsed, DateRange as PlanRange, Order, Tenor as TenorFault, Stub, TooMany, NoMemory as PlanMemory}
use Rattle.schedule_rules.specs.Schedule.{schedule}
use Rattle.curve_terms.specs.declared.terms.Helper.{Helper}
use Rattle.curve_terms.specs.declared.terms.CurveStart.{CurveStart}
use Rattle.curve_terms.specs.declared.terms.CurveStart.TheVariants.{Moving, Fixed}
use Rattle.curve_terms.specs.declared.terms.CurveTerms.{CurveTerms}
use Rattle.curve_points.specs.declared.curves.CurveNode.{CurveNode}
use Rattle.curve_points.specs.Curve.{Curve, origin}
use Rattle.curve_bootstrap.specs.declared.coupons.Coupon.{Coupon}
use Rattle.curve_bootstrap.specs.declared.faults.HelperFault.{HelperFault}
use Rattle.curve_bootstrap.specs.declared.faults.HelperFault.TheVariants.{DateRange, Pillar, RateRange, Negative, Discount, NoMemory}
use Rattle.curve_bootstrap.specs.declared.faults.BuildFault.{BuildFault}
use Rattle.curve_bootstrap.specs.declared.faults.BuildFault.TheVariants as build
use Rattle.curve_bootstrap.specs.Node.{node_of}

-- a coupon for each period of a schedule that goes on from a day, by the business days of a calendar
abbrev pub periods_from : Counter → (ℤ → Bool) → ℤ → List ℤ → List Coupon
periods_from counter business from [] = []
periods_from counter business from (to ∷ days) =
    record { day = to; parts = pos (frac counter business from to) } ∷ periods_from counter business to days

-- a coupon for each period of a schedule, paid at its end
abbrev pub periods : Counter → (ℤ → Bool) → List ℤ → List Coupon
periods counter business [] = []
periods counter business (day ∷ days) = periods_from counter business day days

-- a fault of a schedule that comes where a helper is in range: its days leave the range, or its end is not after its start; or want of memory
abbrev pub Comes : PlanFault → Type 0
Comes Order = ⊥
Comes TenorFault = ⊥
Comes Stub = ⊥
Comes TooMany = ⊥
Comes PlanRange = Unit {0}
Comes Collapsed = Unit {0}
Comes PlanMemory = Unit {0}

-- what a schedule's fault is for a helper; only `DateRange` and `Collapsed` come
abbrev pub fault_of : PlanFault → HelperFault
fault_of Order = DateRange
fault_of TenorFault = DateRange
fault_of Stub = DateRange
fault_of TooMany = DateRange
fault_of PlanRange = DateRange
fault_of Collapsed = Pillar
fault_of PlanMemory = NoMemory

-- the coupon of a deposit that ends on a day
abbrev pub deposit_to : Counter → (ℤ → Bool) → ℤ → Option ℤ → Result (List Coupon) HelperFault
deposit_to counter business reference (Some day) =
    Ok (record { day = day; parts = pos (frac counter business reference day) } ∷ [])
deposit_to counter business reference None = Err DateRange

-- the coupons of a schedule
abbrev pub swap_over : Counter → (ℤ → Bool) → Result (List ℤ) PlanFault → Result (List Coupon) HelperFault
swap_over counter business (Ok days) = Ok (periods counter business days)
swap_over counter business (Err fault) = Err (fault_of fault)

-- the plan of a par swap: its days go back from its end, and its convention holds for all of them
abbrev pub plan_of : Calendar → ℤ → Helper → Tenor → ℤ → Plan
plan_of calendar reference helper every end = record {
  start = reference;
  end = end;
  tenor = every;
  cal = record { ref_ptr = (0, 0); now = calendar };
  conv = helper.conv;
  end_conv = helper.conv;
  rule = Backward;
  eom = helper.eom;
  first = None;
  last = None;
}

-- the coupons of a par swap whose end before adjustment is a day
abbrev pub swap_to : Calendar → ℤ → Helper → Tenor → Option ℤ → Result (List Coupon) HelperFault
swap_to calendar reference helper every (Some end) =
    swap_over helper.counter (is_business_day calendar) (schedule (is_business_day calendar) (plan_of calendar reference helper every end))
swap_to calendar reference helper every None = Err DateRange

-- the coupons of a helper by its kind: a deposit's one on the day that its tenor leads to, a swap's one for each period
abbrev pub coupons_by : Calendar → ℤ → Helper → Option Tenor → Result (List Coupon) HelperFault
coupons_by calendar reference helper None =
    deposit_to helper.counter (is_business_day calendar) reference
    (advanced (is_business_day calendar) helper.tenor.unit helper.conv helper.eom reference helper.tenor.count)
coupons_by calendar reference helper (Some every) =
    swap_to calendar reference helper every (units_on helper.tenor.unit reference helper.tenor.count)

-- a day where it is adjusted to one, and none where it is not
abbrev pub where_adjusted : (ℤ → Option ℤ) → Option ℤ → Option ℤ
where_adjusted adjusts None = None
where_adjusted adjusts (Some day) = if is_some (adjusts day) then Some day else None

-- the end of a swap before it is adjusted, where it is adjusted to a day
abbrev pub swap_end : Calendar → ℤ → Helper → Option ℤ
swap_end calendar reference helper =
    where_adjusted (adjusted (is_business_day calendar) helper.conv) (units_on helper.tenor.unit reference helper.tenor.count)

-- the day that a helper's tenor leads to: a deposit's end, or a swap's before it is adjusted
abbrev pub led_by : Calendar → ℤ → Helper → Option Tenor → Option ℤ
led_by calendar reference helper None =
    advanced (is_business_day calendar) helper.tenor.unit helper.conv helper.eom reference helper.tenor.count
led_by calendar reference helper (Some every) = swap_end calendar reference helper

-- the same of a helper that starts at a reference day
abbrev pub led_to : Calendar → ℤ → Helper → Option ℤ
led_to calendar reference helper = led_by calendar reference helper helper.every

-- the same of the first of helpers; where there is none, the day on which they start
abbrev pub first_led : Calendar → ℤ → List Helper → Option ℤ
first_led calendar reference [] = Some reference
first_led calendar reference (helper ∷ helpers) = led_to calendar reference helper

-- the coupons of a helper that starts at a reference day
unfoldable pub coupons_of : Calendar → ℤ → Helper → Result (List Coupon) HelperFault
coupons_of calendar reference helper = coupons_by calendar reference helper helper.every

-- the end of a helper: its last coupon's day
abbrev pub end_of : ℤ → List Coupon → ℤ
end_of day [] = day
end_of day (coupon ∷ coupons) = end_of coupon.day coupons

-- a node at a day, where its factor is known
abbrev pub node_at : ℤ → Result ℤ HelperFault → Result CurveNode HelperFault
node_at end (Ok factor) = Ok (record { day = end; factor = factor })
node_at end (Err fault) = Err fault

-- the node of a helper by its coupons
abbrev pub node_by : CurveNode → List CurveNode → ℤ → Result (List Coupon) HelperFault → Result CurveNode HelperFault
node_by from nodes rate (Ok coupons) =
    node_at (end_of from.day coupons) (node_of from nodes (end_of from.day coupons) rate coupons)
node_by from nodes rate (Err fault) = Err fault

-- a helper's fault with its number, counted from 1
abbrev pub numbered : ℕ → HelperFault → BuildFault
numbered k DateRange = build.DateRange
numbered k Pillar = build.Pillar k
numbered k RateRange = build.RateRange
numbered k Negative = build.Negative k
numbered k Discount = build.Discount k
numbered k NoMemory = build.NoMemory

-- a node taken further, or the fault of its helper
abbrev pub go_on : ℕ → Result CurveNode HelperFault → (CurveNode → Result (List CurveNode) BuildFault) → Result (List CurveNode) BuildFault
go_on k (Ok node) next = next node
go_on k (Err fault) next = Err (numbered k fault)

-- the nodes of helpers in their order, the kth the first, behind nodes that are there; the first helper that is refused decides
unfoldable pub nodes_of : (Helper → Result (List Coupon) HelperFault) → CurveNode → ℕ → List CurveNode → List Helper → List ℤ → Result (List CurveNode) BuildFault
nodes_of coupons from k nodes [] rates = Ok nodes
nodes_of coupons from k nodes (helper ∷ helpers) [] = Ok nodes
nodes_of coupons from k nodes (helper ∷ helpers) (rate ∷ rates) =
    go_on k (node_by from nodes rate (coupons helper)) (λ node. nodes_of coupons from (suc k) (nodes ++ node ∷ []) helpers rates)

-- the day that a curve starts on: the settlement days on from an evaluation date, or its own as it is, which may be a
-- holiday (QuantLib's settlementDays and referenceDate)
abbrev pub started_on : (ℤ → Bool) → ℤ → CurveStart → Option ℤ
started_on business today (Moving settlement) = advanced business Days Following false today (pos settlement)
started_on business today (Fixed day) = Some day

-- the reference day of terms on an evaluation date
abbrev pub reference_day : CurveTerms → ℤ → Option ℤ
reference_day terms today = started_on (is_business_day terms.cal) today terms.start

-- the curve of an owner, a reference day and nodes
abbrev pub curve_of : ℕ → ℤ → Result (List CurveNode) BuildFault → Result Curve BuildFault
curve_of owner reference (Ok nodes) =
    Ok (record { owner = owner; reference = reference; nodes = nodes })
curve_of owner reference (Err fault) = Err fault

-- the curve from a reference day, where there is one
abbrev pub curve_from : ℕ → CurveTerms → List ℤ → Option ℤ → Result Curve BuildFault
curve_from owner terms rates (Some reference) =
    curve_of owner reference (nodes_of (coupons_of terms.cal reference) (origin reference) 1 [] terms.helpers rates)
curve_from owner terms rates None = Err build.DateRange

-- the curve of terms and rates on an evaluation date, or why there is none
unfoldable pub built_curve : ℕ → CurveTerms → ℤ → List ℤ → Result Curve BuildFault
built_curve owner terms today rates = curve_from owner terms rates (reference_day terms today)

-- whether memory is taken for a helper behind nodes that are there: of a deposit none until its node stands, and of a
-- swap none where its end is no day
abbrev pub takes_for : Calendar → CurveNode → List CurveNode → ℤ → Helper → Option Tenor → Bool
takes_for calendar from nodes rate helper None = is_ok (node_by from nodes rate (coupons_of calendar from.day helper))
takes_for calendar from nodes rate helper (Some every) = is_some (swap_end calendar from.day helper)

-- the same of the first of helpers, which stands behind none
abbrev pub first_takes : Calendar → ℤ → List Helper → List ℤ → Bool
first_takes calendar reference [] rates = false
first_takes calendar reference (helper ∷ helpers) [] = false
first_takes calendar reference (helper ∷ helpers) (rate ∷ rates) =
    takes_for calendar (origin reference) [] rate helper helper.every

-- the same of a curve from its reference day, where there is one
abbrev pub takes_from : CurveTerms → List ℤ → Option ℤ → Bool
takes_from terms rates None = false
takes_from terms rates (Some reference) = first_takes terms.cal reference terms.helpers rates

-- whether memory is taken before a curve of terms and rates is built or refused: not where the reference day is none,
-- nor where the first helper is refused without
abbrev pub takes_memory : CurveTerms → ℤ → List ℤ → Bool
takes_memory terms today rates = takes_from terms rates (reference_day terms today)

-- what a call answers that gives a definition's value or fault of a helper, or is refused for want of memory
abbrev pub GivesHelper : {X Y : Type 0} → (X → Y) → Result Y HelperFault → Result X HelperFault → Type 0
GivesHelper view due (Ok x) = due ≡ Ok (view x)
GivesHelper view due (Err DateRange) = due ≡ Err DateRange
GivesHelper view due (Err Pillar) = due ≡ Err Pillar
GivesHelper view due (Err RateRange) = due ≡ Err RateRange
GivesHelper view due (Err Negative) = due ≡ Err Negative
GivesHelper view due (Err Discount) = due ≡ Err Discount
GivesHelper view due (Err NoMemory) = Unit {0}

-- the same of a curve
abbrev pub Gives : {X : Type 0} → Result X BuildFault → Result X BuildFault → Type 0
Gives due (Ok x) = due ≡ Ok x
Gives due (Err (build.Pillar k)) = due ≡ Err (build.Pillar k)
Gives due (Err (build.Discount k)) = due ≡ Err (build.Discount k)
Gives due (Err (build.Negative k)) = due ≡ Err (build.Negative k)
Gives due (Err build.RateRange) = due ≡ Err build.RateRange
Gives due (Err build.DateRange) = due ≡ Err build.DateRange
Gives due (Err build.NoMemory) = Unit {0}
