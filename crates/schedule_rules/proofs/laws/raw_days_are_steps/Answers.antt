use Rattle.schedule_rules.proofs.RawLaw.{raw_days_are_steps}
use Rattle.schedule_rules.proofs.laws.raw_days_are_steps.Goals as goal

pub returns : goal.returns
returns c = raw_days_are_steps
