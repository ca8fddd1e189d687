use Rattle.schedule_rules.proofs.EndsLaw.{schedules_go_by_the_days}
use Rattle.schedule_rules.proofs.laws.schedules_go_by_the_days.Goals as goal

pub returns : goal.returns
returns c = schedules_go_by_the_days
