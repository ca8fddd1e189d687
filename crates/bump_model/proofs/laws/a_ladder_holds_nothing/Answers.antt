use Rattle.bump_model.proofs.Asking.{ladder_unheld}
use Rattle.bump_model.proofs.laws.a_ladder_holds_nothing.Goals as goal

pub returns : goal.returns
returns c = λ calc size s o bumps free. ladder_unheld calc size o bumps s free
