use Rattle.curve_bootstrap.proofs.LawLemmas.{nodes_are_least}
use Rattle.curve_bootstrap.proofs.laws.nodes_are_least_law.Goals as goal

pub returns : goal.returns
returns c = nodes_are_least
