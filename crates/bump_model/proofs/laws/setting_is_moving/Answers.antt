use Rattle.bump_model.proofs.Moving.{quoted_live, set_moves}
use Rattle.bump_model.proofs.laws.setting_is_moving.Goals as goal

pub returns : goal.returns
returns c = λ s group are change. set_moves change group s (quoted_live s.market group are)
