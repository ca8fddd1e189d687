use Rattle.std.proofs.Common.{arith, refl, ◌*◌, ◌*ℤ◌, ◌+ℤ◌, pos, FitsSigned, to_z-of_z}
use Rattle.std.specs.Int.{w128}
use Rattle.std.specs.Int.RustNames.{unsigned_abs}
use Rattle.std.proofs.lemmas.Int.{ints}
use Rattle.flow_terms.specs.declared.limits.TheConstants.{MOST_RATE, MOST_PARTS}
use Rattle.cash_flow_legs.specs.Interest.{whole}
use Rattle.cash_flow_legs.proofs.Products.{IsProduct, product_is, sum_fits}
use Rattle.cash_flow_legs.proofs.settlements.growth.Goals as goal

is_product : (c : goal.After-wide) → IsProduct c.wide_rate.result c.wide.result (MOST_RATE * unsigned_abs MOST_PARTS)
is_product c =
    product_is c.wide_rate.result c.wide.result MOST_RATE (unsigned_abs MOST_PARTS) (rw c.wide_rate.ensures (omega (arith, ints, c.requires.rate)))
    (omega (arith, ints, c.wide.ensures.range)) (omega arith) (omega arith) (omega arith)

fits : (c : goal.After-wide) → FitsSigned w128 (pos whole +ℤ c.wide_rate.result *ℤ c.wide.result)
fits c = sum_fits whole (MOST_RATE * unsigned_abs MOST_PARTS) (c.wide_rate.result *ℤ c.wide.result) (is_product c).size (omega arith)

pub overflow_mul-result : goal.overflow_mul-result
overflow_mul-result c = (is_product c).fits

pub overflow_add-result : goal.overflow_add-result
overflow_add-result c = rw (is_product c).value (fits c)

pub returns : goal.returns
returns c = rw ((is_product c).value, to_z-of_z (fits c), c.wide_rate.ensures, c.wide.ensures.value) refl
