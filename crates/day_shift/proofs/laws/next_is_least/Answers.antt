use Rattle.day_shift.proofs.SetLemmas.{next_is_least}
use Rattle.day_shift.proofs.laws.next_is_least.Goals as goal

pub returns : goal.returns
returns c = next_is_least
