use Rattle.day_shift.proofs.MonthEndLemmas.{last_open_is_greatest, no_last_open_is_no_business_day}
use Rattle.day_shift.proofs.laws.last_open_is_greatest.Goals as goal

pub returns : goal.returns
returns c = record { day = last_open_is_greatest; none = no_last_open_is_no_business_day }
