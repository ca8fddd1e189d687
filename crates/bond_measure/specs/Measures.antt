-- What a basis point does to the price of a fixed bond, from differences of its full prices (QuantLib's
-- BondFunctions::basisPointValue, duration and convexity, which take derivatives; this project's profile).
use Rattle.std.specs.Prelude.{ℕ, ◌+◌, ◌-◌, ◌^◌, ℤ, pos, ◌+ℤ◌, ◌-ℤ◌, ◌*ℤ◌, unsigned_abs, int_lt, nat_le, if◌then◌else◌, List, Option, None, Some, Result, Ok, Err}
use Rattle.fixed_amount.specs.Rounding.{closest}
use Rattle.flow_terms.specs.declared.flows.FlowTerm.{FlowTerm}
use Rattle.bond_yield.specs.declared.yields.TheConstants.{MOST_YIELD}
use Rattle.bond_yield.specs.Price.{full_price}
use Rattle.bond_measure.specs.declared.measures.MeasureFault.{MeasureFault}
use Rattle.bond_measure.specs.declared.measures.MeasureFault.TheVariants.{Low, High, Worthless}

-- a basis point, in units of a yield
abbrev pub step : ℕ
step = 10 ^ 5

-- a yield from which a basis point more is beyond the greatest, or a basis point less below 0
abbrev pub raised_fault : ℕ → Option MeasureFault
raised_fault y = if nat_le (y + step) MOST_YIELD then None else Some High

abbrev pub moved_fault : ℕ → Option MeasureFault
moved_fault y = if nat_le step y then raised_fault y else Some Low

-- flows that are worth nothing have no measure that is a part of their price
abbrev pub price_fault : ℤ → ℕ → Option MeasureFault
price_fault price y = if int_lt (pos 0) price then moved_fault y else Some Worthless

abbrev pub unless : Option MeasureFault → ℤ → Result ℤ MeasureFault
unless None value = Ok value
unless (Some fault) value = Err fault

-- what the price gains where the yield rises by a basis point, in units of money
abbrev pub bpv : List FlowTerm → ℤ → ℕ → Result ℤ MeasureFault
bpv flows settle y =
    unless (raised_fault y) (full_price flows settle (y + step) -ℤ full_price flows settle y)

-- by the prices a basis point below and above: what part of the price a change of the yield takes, in 10^-9 years
abbrev pub duration_by : ℤ → ℤ → ℤ → ℤ
duration_by below price above = closest ((below -ℤ above) *ℤ pos (10 ^ 13)) (unsigned_abs (pos 2 *ℤ price))

abbrev pub duration : List FlowTerm → ℤ → ℕ → Result ℤ MeasureFault
duration flows settle y =
    unless (price_fault (full_price flows settle y) y)
    (duration_by (full_price flows settle (y - step)) (full_price flows settle y) (full_price flows settle (y + step)))

-- and how that changes with the yield, in years squared
abbrev pub convexity_by : ℤ → ℤ → ℤ → ℤ
convexity_by below price above = closest ((below +ℤ above -ℤ pos 2 *ℤ price) *ℤ pos (10 ^ 8)) (unsigned_abs price)

abbrev pub convexity : List FlowTerm → ℤ → ℕ → Result ℤ MeasureFault
convexity flows settle y =
    unless (price_fault (full_price flows settle y) y)
    (convexity_by (full_price flows settle (y - step)) (full_price flows settle y) (full_price flows settle (y + step)))
