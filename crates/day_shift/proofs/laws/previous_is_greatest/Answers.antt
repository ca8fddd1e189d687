use Rattle.day_shift.proofs.SetLemmas.{previous_is_greatest}
use Rattle.day_shift.proofs.laws.previous_is_greatest.Goals as goal

pub returns : goal.returns
returns c = previous_is_greatest
