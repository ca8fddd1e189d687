-- What is proved of prices and yields.
use Rattle.std.specs.Prelude.{◌≡◌, ℕ, ◌<◌, ◌≤◌, ◌-◌, ◌^◌, ℤ, ◌≤ℤ◌, ◌<ℤ◌, unsigned_abs, List, get_or}
use Rattle.flow_terms.specs.declared.flows.FlowTerm.{FlowTerm}
use Rattle.bond_yield.specs.declared.yields.TheConstants.{MOST_YIELD, MOST_CLEAN}
use Rattle.bond_yield.specs.Price.{factors, full_price}
use Rattle.bond_yield.specs.Yield.{IsYield}

-- law: no factor grows with the yield
abbrev pub NoFactorGrows : Type 0
NoFactorGrows = (y z : ℕ) (settle : ℤ) (days : List ℤ) (k : ℕ)
    → y ≤ z → get_or (factors z settle days) k 0 ≤ get_or (factors y settle days) k 0

-- law: nor does the full price
abbrev pub PriceNeverGrows : Type 0
PriceNeverGrows = (flows : List FlowTerm) (settle : ℤ) (y z : ℕ)
    → y ≤ z → full_price flows settle z ≤ℤ full_price flows settle y

-- law: a price has one yield at most
abbrev pub YieldIsOne : Type 0
YieldIsOne = (flows : List FlowTerm) (settle price y z : ℤ)
    → IsYield flows settle price y → IsYield flows settle price z → y ≡ z

-- law: one unit of a rate below a yield above 0 the full price is above the one asked
abbrev pub IsAboveBelow : Type 0
IsAboveBelow = (flows : List FlowTerm) (settle price yield : ℤ)
    → IsYield flows settle price yield → 0 < unsigned_abs yield
    → price <ℤ full_price flows settle (unsigned_abs yield - 1)

-- law: the limits that definitions cite by name: a yield of 10, and a price of 10^13
pub record AreTheLimits : Type 0 where
  pub yield : MOST_YIELD ≡ 10 ^ 10
  pub clean : MOST_CLEAN ≡ 10 ^ 19
