use Rattle.std.proofs.Common.{◌≤◌, ◌*◌, ◌^◌, arith, refl, unsigned_abs}
use Rattle.jiff_core.proofs.SignedLemmas.{signed_arith, unsigned_abs-parts, one_part}
use Rattle.cash_flow_legs.proofs.Products.{IsProduct, product_is}
use Rattle.session_why.proofs.products.product.Goals as goal

is_product : (c : goal.After-wide) → IsProduct c.units.result c.wide.result (10 ^ 22 * (4 * 10 ^ 12))
is_product c =
    let amount : unsigned_abs c.args.amount ≤ 10 ^ 22 =
    omega (arith, signed_arith, unsigned_abs-parts c.args.amount, one_part c.args.amount, c.requires.0, c.requires.1) in
    product_is c.units.result c.wide.result (10 ^ 22) (4 * 10 ^ 12) (rw c.units.ensures amount) c.wide.ensures.size
    (omega arith) (omega arith) (omega arith)

pub overflow_mul-result : goal.overflow_mul-result
overflow_mul-result c = (is_product c).fits

pub returns-clause-value : goal.returns-clause-value
returns-clause-value c = rw ((is_product c).value, c.units.ensures, c.wide.ensures.value) refl

pub returns-clause-size : goal.returns-clause-size
returns-clause-size c = rw (is_product c).value (is_product c).size
