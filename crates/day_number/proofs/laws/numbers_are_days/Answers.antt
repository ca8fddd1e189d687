use Rattle.day_number.proofs.DayLemmas.{civil_number-range, date_of-is, one_date}
use Rattle.day_number.proofs.laws.numbers_are_days.Goals as goal

pub returns-clause-number : goal.returns-clause-number
returns-clause-number c = civil_number-range

pub returns-clause-date : goal.returns-clause-date
returns-clause-date c = date_of-is

pub returns-clause-one : goal.returns-clause-one
returns-clause-one c = one_date
