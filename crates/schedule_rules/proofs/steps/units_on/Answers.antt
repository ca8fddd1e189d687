use Rattle.std.proofs.Common.{inl, inr, arith}
use Rattle.jiff_core.proofs.SignedLemmas.{signed_arith}
use Rattle.day_number.specs.Day.{IsDayNumber}
use Rattle.schedule_rules.proofs.StepLemmas.{units_on-far}
use Rattle.schedule_rules.proofs.steps.units_on.Goals as goal

pub returns-then-n-ltminus200000 : goal.returns-then-n-ltminus200000
returns-then-n-ltminus200000 c =
    let own : IsDayNumber c.args.day = rw c.number-number.ensures.value at c.number-number.ensures.range in
    units_on-far c.args.unit c.args.day c.args.n own (inl (omega (arith, signed_arith, c.if-n-ltminus200000.true)))

pub returns-then-n-gt200000 : goal.returns-then-n-gt200000
returns-then-n-gt200000 c =
    let own : IsDayNumber c.args.day = rw c.number-number.ensures.value at c.number-number.ensures.range in
    units_on-far c.args.unit c.args.day c.args.n own (inr (omega (arith, signed_arith, c.if-n-gt200000.true)))
