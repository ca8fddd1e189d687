use Rattle.desk_model.proofs.Bounds.{fresh_is}
use Rattle.desk_model.proofs.laws.the_price_afresh_is_priced.Goals as goal

pub returns : goal.returns
returns c = fresh_is
