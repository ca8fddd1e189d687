use Rattle.day_shift.proofs.OpenLemmas.{advanced_is_open}
use Rattle.day_shift.proofs.OrderLemmas.{advanced_is_not_before}
use Rattle.day_shift.proofs.laws.advanced_days_are_open.Goals as goal

pub returns : goal.returns
returns c = record { is_open = advanced_is_open; order = advanced_is_not_before }
