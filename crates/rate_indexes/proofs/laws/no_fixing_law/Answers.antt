use Rattle.rate_indexes.proofs.FixingLemmas.{no_fixing_is_exact}
use Rattle.rate_indexes.proofs.laws.no_fixing_law.Goals as goal

pub returns : goal.returns
returns c = no_fixing_is_exact
