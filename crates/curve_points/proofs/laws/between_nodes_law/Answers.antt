use Rattle.curve_points.proofs.LawLemmas.{factor_lies}
use Rattle.curve_points.proofs.laws.between_nodes_law.Goals as goal

pub returns : goal.returns
returns c = factor_lies
