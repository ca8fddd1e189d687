use Rattle.schedule_rules.proofs.EndsLaw.{schedules_begin_and_end}
use Rattle.schedule_rules.proofs.laws.schedules_begin_and_end.Goals as goal

pub returns : goal.returns
returns c = schedules_begin_and_end
