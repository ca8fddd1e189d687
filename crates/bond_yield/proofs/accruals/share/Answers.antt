use Rattle.std.proofs.Common.{arith, rules, ◌≤◌, ◌*◌}
use Rattle.std.proofs.lemmas.Int.{ints}
use Rattle.std.proofs.Math.Nat.{mul-le-mul, mul-le-mul_left}
use Rattle.flow_terms.specs.declared.limits.TheConstants.{MOST_AMOUNT}
use Rattle.bond_yield.proofs.FlowLemmas.{payment_is, nearest_within}
use Rattle.bond_yield.proofs.accruals.share.Goals as goal

pub nearest-requires-clause-high : goal.nearest-requires-clause-high
nearest-requires-clause-high c =
    let few : c.unsigned_abs.result ≤ MOST_AMOUNT = search (rules, (payment_is c.args.amount c.requires.payment).1) in
    omega (arith, mul-le-mul few c.days_from.ensures.few)

pub returns-clause-bound : goal.returns-clause-bound
returns-clause-bound c =
    let few : c.unsigned_abs.result ≤ MOST_AMOUNT = search (rules, (payment_is c.args.amount c.requires.payment).1) in
    let some : 1 ≤ c.days_from-2.result = rw c.days_from-2.ensures.value (omega (arith, ints, c.requires.begun, c.requires.open)) in
    let within : c.days_from.result ≤ c.days_from-2.result = rw (c.days_from.ensures.value, c.days_from-2.ensures.value) (omega (arith, ints, c.requires.begun, c.requires.open)) in
    let share = nearest_within (c.unsigned_abs.result * c.days_from.result) c.unsigned_abs.result c.days_from-2.result c.nearest.result some (mul-le-mul_left c.unsigned_abs.result within) c.nearest.ensures in
    omega (arith, few, share)
