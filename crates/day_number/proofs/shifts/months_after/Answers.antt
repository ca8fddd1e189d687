use Rattle.std.proofs.Common.{arith}
use Rattle.jiff_core.proofs.SignedLemmas.{signed_arith}
use Rattle.day_number.proofs.shifts.months_after.Goals as goal

pub returns-clause-value : goal.returns-clause-value
returns-clause-value c = omega (arith, signed_arith)

pub returns-clause-range : goal.returns-clause-range
returns-clause-range c = (omega (arith, signed_arith), omega (arith, signed_arith))
