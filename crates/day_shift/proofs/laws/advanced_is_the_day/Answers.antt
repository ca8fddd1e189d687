use Rattle.day_shift.proofs.AdvancedLemmas.{advanced_is_the_day}
use Rattle.day_shift.proofs.laws.advanced_is_the_day.Goals as goal

pub returns : goal.returns
returns c = advanced_is_the_day
