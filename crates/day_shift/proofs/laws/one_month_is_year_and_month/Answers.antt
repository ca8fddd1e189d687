use Rattle.day_shift.proofs.InMonthLemmas.{one_month_is_year_and_month}
use Rattle.day_shift.proofs.laws.one_month_is_year_and_month.Goals as goal

pub returns : goal.returns
returns c = one_month_is_year_and_month
