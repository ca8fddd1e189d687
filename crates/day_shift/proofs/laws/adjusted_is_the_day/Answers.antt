use Rattle.day_shift.proofs.AdjustedLemmas.{adjusted_is_the_day}
use Rattle.day_shift.proofs.laws.adjusted_is_the_day.Goals as goal

pub returns : goal.returns
returns c = adjusted_is_the_day
