use Rattle.discount_engines.proofs.WorthLemmas.{worth_of_both}
use Rattle.discount_engines.proofs.laws.worth_of_both_law.Goals as goal

pub returns : goal.returns
returns c = worth_of_both
