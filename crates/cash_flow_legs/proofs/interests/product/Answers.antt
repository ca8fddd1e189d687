use Rattle.std.proofs.Common.{arith, refl, ◌*◌}
use Rattle.std.proofs.lemmas.Int.{ints}
use Rattle.std.specs.Int.RustNames.{unsigned_abs}
use Rattle.flow_terms.specs.declared.limits.TheConstants.{MOST_RATE, MOST_NOTIONAL, MOST_PARTS}
use Rattle.cash_flow_legs.proofs.Products.{IsProduct, product_is}
use Rattle.cash_flow_legs.proofs.interests.product.Goals as goal

is_product : (c : goal.After-wide) → IsProduct c.yearly.result c.wide.result (MOST_NOTIONAL * (2 * MOST_RATE) * unsigned_abs MOST_PARTS)
is_product c =
    product_is c.yearly.result c.wide.result (MOST_NOTIONAL * (2 * MOST_RATE)) (unsigned_abs MOST_PARTS) c.yearly.ensures.size (omega (arith, ints, c.wide.ensures.range))
    (omega arith) (omega arith) (omega arith)

pub overflow_mul-result : goal.overflow_mul-result
overflow_mul-result c = (is_product c).fits

pub returns-clause-value : goal.returns-clause-value
returns-clause-value c = rw ((is_product c).value, c.yearly.ensures.value, c.wide.ensures.value) refl

pub returns-clause-size : goal.returns-clause-size
returns-clause-size c = rw (is_product c).value (is_product c).size
