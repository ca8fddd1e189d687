use Rattle.session_model.proofs.Shown.{every_session}
use Rattle.session_model.proofs.laws.every_session_shows.Goals as goal

pub returns : goal.returns
returns g c = λ calc. every_session _ g.met.P.Picker.below
