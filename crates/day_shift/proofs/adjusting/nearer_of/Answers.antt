use Rattle.std.proofs.Common.{arith, ap, Some, ◌-ℤ◌, if◌then◌else◌}
use Rattle.std.specs.Int.Signed.{◌≤ℤ◌, ◌<ℤ◌}
use Rattle.jiff_core.proofs.SignedLemmas.{signed_arith}
use Rattle.day_shift.proofs.SearchLemmas.{le_z-true, le_z-false}
use Rattle.day_shift.proofs.adjusting.nearer_of.Goals as goal

pub returns-then-number : goal.returns-then-number
returns-then-number c =
    let le : (c.args.later -ℤ c.args.day) ≤ℤ (c.args.day -ℤ c.args.earlier) = omega (arith, signed_arith, c.number.ensures, c.number-2.ensures, c.number-3.ensures, c.number-4.ensures, c.if-number.true) in
    ap (λ b. if b then Some c.args.later else Some c.args.earlier) (le_z-true _ _ le)

pub returns-else-number : goal.returns-else-number
returns-else-number c =
    let lt : (c.args.day -ℤ c.args.earlier) <ℤ (c.args.later -ℤ c.args.day) = omega (arith, signed_arith, c.number.ensures, c.number-2.ensures, c.number-3.ensures, c.number-4.ensures, c.if-number.false) in
    ap (λ b. if b then Some c.args.later else Some c.args.earlier) (le_z-false _ _ lt)
