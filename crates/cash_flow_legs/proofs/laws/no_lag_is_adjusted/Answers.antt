use Rattle.std.proofs.Common.{refl}
use Rattle.day_shift.specs.Advanced.{advanced}
use Rattle.cash_flow_legs.proofs.laws.no_lag_is_adjusted.Goals as goal

pub returns : goal.returns
unfolding advanced
returns c = λ business day. refl
