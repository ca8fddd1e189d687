use Rattle.std.proofs.Common.{refl}
use Rattle.flow_terms.proofs.laws.limits_are_stated.Goals as goal

pub returns : goal.returns
returns c = record { rate = refl; notional = refl; amount = refl; parts = refl; fixing_days = refl; flows = refl }
