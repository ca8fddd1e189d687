use Rattle.std.proofs.Common.{◌∙◌, sym, ap}
use Rattle.holiday_calendars.specs.Calendar.{is_business_day}
use Rattle.curve_bootstrap.specs.Built.{started_on, curve_from, built_curve}
use Rattle.curve_bootstrap.proofs.laws.fixed_curves_stay_law.Goals as goal

pub returns : goal.returns
unfolding built_curve
returns c = λ owner terms day today other rates fixed.
    let here = ap (started_on (is_business_day terms.cal) today) fixed in
    let there = ap (started_on (is_business_day terms.cal) other) fixed in
    ap (curve_from owner terms rates) (here ∙ sym there)
