use Rattle.flow_terms.proofs.FixingLemmas.{each_answers}
use Rattle.flow_terms.proofs.laws.stored_once_law.Goals as goal

pub returns : goal.returns
returns c = each_answers
