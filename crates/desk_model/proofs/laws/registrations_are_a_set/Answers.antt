use Rattle.desk_model.proofs.PairSets.{are_a_set}
use Rattle.desk_model.proofs.laws.registrations_are_a_set.Goals as goal

pub returns : goal.returns
returns c = are_a_set
