use Rattle.std.proofs.Common.{◌-◌, ℕ, ◌<◌, ◌≤◌, ◌≤ℤ◌, ◌<ℤ◌}
use Rattle.bond_yield.specs.declared.yields.TheConstants.{MOST_YIELD}
use Rattle.bond_yield.specs.Price.{full_price}
use Rattle.bond_yield.proofs.yields.least_yield.Given as goal

abbrev pub invariant-loop-low : goal.invariant-loop-low
invariant-loop-low l = record {
  order : l.low ≤ l.high;
  top : l.high ≤ MOST_YIELD;
  meets : full_price l.flows l.settle l.high ≤ℤ l.price;
  least : (y : ℕ) → y < l.low → l.price <ℤ full_price l.flows l.settle y;
}

abbrev pub decreases-loop-low : goal.decreases-loop-low
decreases-loop-low l = l.high - l.low
