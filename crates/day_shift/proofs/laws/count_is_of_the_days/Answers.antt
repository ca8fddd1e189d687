use Rattle.day_shift.proofs.ListedLemmas.{count_is_of_the_days}
use Rattle.day_shift.proofs.laws.count_is_of_the_days.Goals as goal

pub returns : goal.returns
returns c = count_is_of_the_days
