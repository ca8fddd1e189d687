use Rattle.std.proofs.Common.{◌≤◌, ◌^◌, arith}
use Rattle.std.proofs.Math.Nat.{one-le-pow}
use Rattle.curve_drawing.proofs.marks.unit_of.Goals as goal

pub returns-clause-some : goal.returns-clause-some
returns-clause-some c =
    let is = c.pow.ensures in
    let some : 1 ≤ 10 ^ c.from.result = one-le-pow c.from.result 10 (omega arith) in
    omega (arith, is, some)
