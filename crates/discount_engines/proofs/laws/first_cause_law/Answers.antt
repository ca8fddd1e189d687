use Rattle.discount_engines.proofs.WorthLemmas.{first_cause}
use Rattle.discount_engines.proofs.laws.first_cause_law.Goals as goal

pub returns : goal.returns
returns c = first_cause
