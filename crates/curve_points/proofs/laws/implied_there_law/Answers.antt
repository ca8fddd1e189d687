use Rattle.curve_points.proofs.SeenLemmas.{seen_there}
use Rattle.curve_points.proofs.laws.implied_there_law.Goals as goal

pub returns : goal.returns
returns c = seen_there
