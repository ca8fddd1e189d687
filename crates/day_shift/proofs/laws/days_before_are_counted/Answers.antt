use Rattle.day_shift.proofs.DaysBackLemmas.{days_before_are_counted}
use Rattle.day_shift.proofs.laws.days_before_are_counted.Goals as goal

pub returns : goal.returns
returns c = days_before_are_counted
