use Rattle.session_model.proofs.Afresh.{plain_afresh, begins_unheld}
use Rattle.session_model.proofs.laws.without_freezing_and_deferral_all_is_fresh.Goals as goal

pub returns-clause-plain : goal.returns-clause-plain
returns-clause-plain g c = plain_afresh

pub returns-clause-begins : goal.returns-clause-begins
returns-clause-begins g c = begins_unheld
