use Rattle.live_model.proofs.Logs.{logs_are_scripts}
use Rattle.live_model.proofs.laws.a_log_is_a_script.Goals as goal

pub returns : goal.returns
returns g c = λ calc. logs_are_scripts _ g.met.P.Picker.below
