use Rattle.curve_points.proofs.LawLemmas.{segment_gives}
use Rattle.curve_points.proofs.laws.segment_law.Goals as goal

pub returns : goal.returns
returns c = segment_gives
