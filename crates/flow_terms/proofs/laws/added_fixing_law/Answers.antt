use Rattle.flow_terms.proofs.FixingLemmas.{fixing_on-with}
use Rattle.flow_terms.proofs.laws.added_fixing_law.Goals as goal

pub returns : goal.returns
returns c = fixing_on-with
