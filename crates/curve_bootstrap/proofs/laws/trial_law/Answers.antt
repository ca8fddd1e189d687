use Rattle.curve_bootstrap.proofs.LawLemmas.{trial_is_discount}
use Rattle.curve_bootstrap.proofs.laws.trial_law.Goals as goal

pub returns : goal.returns
returns c = trial_is_discount
