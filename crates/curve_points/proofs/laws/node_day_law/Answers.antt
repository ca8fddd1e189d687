use Rattle.curve_points.proofs.LawLemmas.{node_day_gives}
use Rattle.curve_points.proofs.laws.node_day_law.Goals as goal

pub returns : goal.returns
returns c = node_day_gives
