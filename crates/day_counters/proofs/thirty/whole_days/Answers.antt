use Rattle.std.proofs.Common.{arith, pos, ◌+ℤ◌, ◌*ℤ◌}
use Rattle.jiff_core.proofs.SignedLemmas.{signed_arith}
use Rattle.std.proofs.lemmas.Int.{int_max_is}
use Rattle.day_counters.proofs.ThirtyLemmas.{at_least_zero-parts}
use Rattle.day_counters.proofs.thirty.whole_days.Goals as goal

pub returns-clause-value : goal.returns-clause-value
returns-clause-value c = omega (arith, signed_arith, c.max.ensures.value, int_max_is, at_least_zero-parts (c.args.years *ℤ pos 360 +ℤ c.args.months *ℤ pos 30 +ℤ c.args.days))

pub returns-clause-high : goal.returns-clause-high
returns-clause-high c = omega (arith, signed_arith, c.max.ensures.value, int_max_is)
