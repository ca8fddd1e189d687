-- The yield of a bond.
use Rattle.std.specs.Prelude.{ℕ, zero, suc, ◌+◌, ◌<◌, ◌≤◌, Bool, int_le, Result, Ok, Err, ℤ, pos, ◌+ℤ◌, ◌≤ℤ◌, ◌<ℤ◌, int_lt, unsigned_abs, not, if◌then◌else◌, List, Option, Some, None}
use Rattle.flow_terms.specs.declared.flows.FlowTerm.{FlowTerm}
use Rattle.flow_terms.specs.Flows.{is_expired}
use Rattle.bond_yield.specs.declared.yields.TheConstants.{MOST_YIELD}
use Rattle.bond_yield.specs.declared.bonds.YieldFault.{YieldFault}
use Rattle.bond_yield.specs.declared.bonds.YieldFault.TheVariants.{NotFixed, NoFlow, Above, Below}
use Rattle.bond_yield.specs.Fixed.{is_fixed}
use Rattle.bond_yield.specs.Accrued.{accrued}
use Rattle.bond_yield.specs.Price.{full_price}

-- the full price that a clean price asks for: with the interest that has accrued
abbrev pub asked_price : List FlowTerm → ℤ → ℤ → ℤ
asked_price flows settle clean = clean +ℤ accrued flows settle

-- a full price that no yield from 0 to 10 meets: above the price at 0, or below that at 10
abbrev pub price_fault : List FlowTerm → ℤ → ℤ → Option YieldFault
price_fault flows settle price =
    if int_lt (full_price flows settle 0) price then Some (Above (full_price flows settle 0))
    else if int_lt price (full_price flows settle MOST_YIELD) then Some (Below (full_price flows settle MOST_YIELD))
    else None

-- why a bond has no yield at a clean price; the first reason in this order
abbrev pub fault_of : List FlowTerm → ℤ → ℤ → Option YieldFault
fault_of flows settle clean =
    if not (is_fixed flows) then Some NotFixed
    else if is_expired flows settle then Some NoFlow
    else price_fault flows settle (asked_price flows settle clean)

-- the least number from one on, among as many as are given, that passes a test; else the one behind them
unfoldable pub least_from : (ℕ → Bool) → ℕ → ℕ → ℕ
least_from test at zero = at
least_from test at (suc more) = if test at then at else least_from test (at + 1) more

-- the least yield from 0 on at which the full price is not above a price
unfoldable pub least_yield : List FlowTerm → ℤ → ℤ → ℕ
least_yield flows settle price = least_from (λ yield. int_le (full_price flows settle yield) price) 0 MOST_YIELD

abbrev pub fault_or : Option YieldFault → ℕ → Result ℤ YieldFault
fault_or None yield = Ok (pos yield)
fault_or (Some fault) yield = Err fault

-- the yield at a clean price, or why there is none
abbrev pub yield_of : List FlowTerm → ℤ → ℤ → Result ℤ YieldFault
yield_of flows settle clean =
    fault_or (fault_of flows settle clean) (least_yield flows settle (asked_price flows settle clean))

-- the yield at a full price: the least from 0 to 10 at which the flows are worth no more (QuantLib's
-- BondFunctions::yield, which stops near a root)
pub record IsYield (flows : List FlowTerm) (settle price yield : ℤ) : Type 0 where
  pub low : pos 0 ≤ℤ yield
  pub high : unsigned_abs yield ≤ MOST_YIELD
  pub meets : full_price flows settle (unsigned_abs yield) ≤ℤ price
  pub least : (y : ℕ) → y < unsigned_abs yield → price <ℤ full_price flows settle y
