use Rattle.day_shift.proofs.OpenLemmas.{business_days_stay, adjusted_is_open}
use Rattle.day_shift.proofs.OrderLemmas.{adjusted_keeps_order}
use Rattle.day_shift.proofs.laws.adjusted_days_are_open.Goals as goal

pub returns : goal.returns
returns c = record { stay = business_days_stay; is_open = adjusted_is_open; order = adjusted_keeps_order }
