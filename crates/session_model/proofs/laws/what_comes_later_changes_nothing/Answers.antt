use Rattle.session_model.proofs.WiderSessions.{later_nothing}
use Rattle.session_model.proofs.laws.what_comes_later_changes_nothing.Goals as goal

pub returns : goal.returns
returns g c = λ calc. later_nothing _ g.met.P.Picker.below
