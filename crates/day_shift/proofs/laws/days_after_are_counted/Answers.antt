use Rattle.day_shift.proofs.DaysLemmas.{days_after_are_counted}
use Rattle.day_shift.proofs.laws.days_after_are_counted.Goals as goal

pub returns : goal.returns
returns c = days_after_are_counted
