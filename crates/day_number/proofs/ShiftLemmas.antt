-- Months are jiff's.
use Rattle.std.proofs.Common.{refl}
use Rattle.jiff.specs.Words.{epoch_day}
use Rattle.day_number.specs.Day.{civil_number}
use Rattle.day_number.specs.Shift.{months_later, AreJiffsMonths}
use Rattle.day_number.proofs.DayLemmas.{numbered_date, date_of-civil_number}

pub are_jiffs_months : AreJiffsMonths
unfolding months_later civil_number
are_jiffs_months date n h =
    let own = numbered_date date (epoch_day date) h refl in
    rw (date_of-civil_number date.year date.month date.day own.0) refl
