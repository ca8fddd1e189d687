use Rattle.std.proofs.Common.{arith, refl, ◌*◌}
use Rattle.std.proofs.lemmas.Int.{ints}
use Rattle.flow_terms.specs.declared.limits.TheConstants.{MOST_RATE, MOST_NOTIONAL}
use Rattle.cash_flow_legs.proofs.Products.{IsProduct, product_is}
use Rattle.cash_flow_legs.proofs.interests.yearly.Goals as goal

is_product : (c : goal.After-wide_rate) → IsProduct c.units.result c.wide_rate.result (MOST_NOTIONAL * (2 * MOST_RATE))
is_product c =
    product_is c.units.result c.wide_rate.result MOST_NOTIONAL (2 * MOST_RATE) (rw c.units.ensures (omega (arith, ints, c.requires.notional)))
    (rw c.wide_rate.ensures (omega (arith, ints, c.requires.rate))) (omega arith) (omega arith) (omega arith)

pub overflow_mul-result : goal.overflow_mul-result
overflow_mul-result c = (is_product c).fits

pub returns-clause-value : goal.returns-clause-value
returns-clause-value c = rw ((is_product c).value, c.units.ensures, c.wide_rate.ensures) refl

pub returns-clause-size : goal.returns-clause-size
returns-clause-size c = rw (is_product c).value (is_product c).size
