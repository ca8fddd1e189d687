use Rattle.rate_indexes.proofs.FixingLemmas.{stored_wins}
use Rattle.rate_indexes.proofs.laws.stored_fixing_law.Goals as goal

pub returns : goal.returns
returns c = stored_wins
