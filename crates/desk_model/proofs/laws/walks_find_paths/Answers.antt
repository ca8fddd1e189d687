use Rattle.desk_model.proofs.Paths.{find_paths}
use Rattle.desk_model.proofs.laws.walks_find_paths.Goals as goal

pub returns : goal.returns
returns c = λ state whole. find_paths state whole
