use Rattle.rate_indexes.proofs.FixingLemmas.{later_is_forecast}
use Rattle.rate_indexes.proofs.laws.later_fixing_law.Goals as goal

pub returns : goal.returns
returns c = later_is_forecast
