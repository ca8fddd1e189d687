use Rattle.schedule_rules.proofs.ScheduleLaw.{schedules_are_adjusted_days}
use Rattle.schedule_rules.proofs.laws.schedules_are_adjusted_days.Goals as goal

pub returns : goal.returns
returns c = schedules_are_adjusted_days
