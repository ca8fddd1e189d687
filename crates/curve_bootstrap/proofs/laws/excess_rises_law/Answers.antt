use Rattle.curve_bootstrap.proofs.LawLemmas.{rises}
use Rattle.curve_bootstrap.proofs.laws.excess_rises_law.Goals as goal

pub returns : goal.returns
returns c = rises
