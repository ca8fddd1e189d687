-- The flows of a leg: one for each period of a schedule.
use Rattle.std.specs.Prelude.{ℕ, ℤ, pos, Bool, List, [], ◌∷◌, Option, Some, None}
use Rattle.year_parts.specs.declared.counters.Counter.{Counter}
use Rattle.day_counters.specs.Counter.{frac}
use Rattle.holiday_calendars.specs.Calendar.{is_business_day}
use Rattle.flow_terms.specs.declared.indexes.IndexTerms.{IndexTerms}
use Rattle.flow_terms.specs.declared.flows.FlowTerm.{FlowTerm}
use Rattle.flow_terms.specs.declared.flows.FlowTerm.TheVariants.{Known, Float}
use Rattle.flow_terms.specs.Fixings.{IsRate}
use Rattle.flow_terms.specs.Ranges.{IsNotional}
use Rattle.cash_flow_legs.specs.declared.periods.Coupon.{Coupon}
use Rattle.cash_flow_legs.specs.declared.periods.Coupon.TheVariants as coupon
use Rattle.cash_flow_legs.specs.declared.periods.Leg.{Leg}
use Rattle.cash_flow_legs.specs.Days.{payment_day, fixing_day}
use Rattle.cash_flow_legs.specs.Interest.{interest}

-- a flow in front of others, where all are there
abbrev pub flow_and : Option FlowTerm → Option (List FlowTerm) → Option (List FlowTerm)
flow_and None flows = None
flow_and (Some flow) None = None
flow_and (Some flow) (Some flows) = Some (flow ∷ flows)

-- a flow for each period from a day on, where there is one for each
unfoldable pub periods_from : (ℤ → ℤ → Option FlowTerm) → ℤ → List ℤ → Option (List FlowTerm)
periods_from flow from [] = Some []
periods_from flow from (to ∷ days) = flow_and (flow from to) (periods_from flow to days)

-- a flow for each period of a schedule's days, where there is one for each
abbrev pub each_period : (ℤ → ℤ → Option FlowTerm) → List ℤ → Option (List FlowTerm)
each_period flow [] = Some []
each_period flow (day ∷ days) = periods_from flow day days

-- a known amount, where it has a day
abbrev pub known_on : Option ℤ → ℤ → Option (ℤ × ℤ) → Option FlowTerm
known_on None amount period = None
known_on (Some paid) amount period = Some (Known paid amount period)

-- interest at an index's rate, where it is paid and fixed on days
abbrev pub float_on : Option ℤ → Option ℤ → ℤ → ℤ → ℤ → Option FlowTerm
float_on None fixing notional spread parts = None
float_on (Some paid) None notional spread parts = None
float_on (Some paid) (Some fixing) notional spread parts = Some (Float paid notional spread parts fixing)

-- the interest at a rate for a period, which it keeps, paid a lag after its end (QuantLib's FixedRateCoupon)
abbrev pub fixed_flow : (ℤ → Bool) → ℕ → ℤ → ℤ → Counter → ℤ → ℤ → Option FlowTerm
fixed_flow business lag notional rate counter from to =
    known_on (payment_day business lag to) (interest notional rate (pos (frac counter business from to)))
    (Some (from, to))

-- the interest at an index's rate and a spread for a period, paid a lag after its end and fixed before its start
-- (QuantLib's IborCoupon)
abbrev pub float_flow : (ℤ → Bool) → ℕ → ℤ → ℤ → Counter → IndexTerms → ℤ → ℤ → Option FlowTerm
float_flow business lag notional spread counter index from to =
    float_on (payment_day business lag to) (fixing_day index from) notional spread (pos (frac counter business from to))

-- the flow of a period by what a leg pays
abbrev pub flow_by : (ℤ → Bool) → ℕ → ℤ → Counter → Coupon → ℤ → ℤ → Option FlowTerm
flow_by business lag notional counter (coupon.Fixed rate) = fixed_flow business lag notional rate counter
flow_by business lag notional counter (coupon.Float spread index) = float_flow business lag notional spread counter index.now

-- the flow of a leg's period
abbrev pub flow_of : Leg → ℤ → ℤ → Option FlowTerm
flow_of leg = flow_by (is_business_day leg.cal.now) leg.lag leg.notional leg.counter leg.coupon

-- the rate or spread of what a leg pays
abbrev pub rate_of : Coupon → ℤ
rate_of (coupon.Fixed rate) = rate
rate_of (coupon.Float spread index) = spread

-- a notional and a rate within their limits
abbrev pub IsLeg : Leg → Type 0
IsLeg leg = IsNotional leg.notional × IsRate (rate_of leg.coupon)
