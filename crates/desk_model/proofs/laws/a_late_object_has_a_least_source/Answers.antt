use Rattle.desk_model.proofs.Paths.{late_least}
use Rattle.desk_model.proofs.laws.a_late_object_has_a_least_source.Goals as goal

pub returns : goal.returns
returns c = late_least
