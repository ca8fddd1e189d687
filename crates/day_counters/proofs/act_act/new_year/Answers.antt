use Rattle.std.proofs.Common.{arith, ◌∙◌, ◌≡◌, to_z, of_z, w16, w32, FitsSigned, to_z-of_z}
use Rattle.jiff_core.proofs.SignedLemmas.{signed_arith}
use Rattle.day_counters.proofs.CastLemmas.{cast_year}
use Rattle.jiff_core.proofs.CalendarLemmas.{days_in_month_bounds}
use Rattle.day_number.specs.Day.{civil_number}
use Rattle.day_counters.proofs.act_act.new_year.Goals as goal

pub returns : goal.returns
unfolding civil_number
returns c =
    let date = c.constrain.result in
    let y = c.constrain.ensures.year ∙ cast_year c.args.year c.requires in
    let long = days_in_month_bounds (to_z w16 (of_z w16 (to_z w32 (of_z w32 c.args.year)))) 1 in
    let d : date.day ≡ 1 = omega (arith, c.constrain.ensures.day) in
    let value = rw (y, c.constrain.ensures.month, d) at c.to_unix_epoch_day.ensures.value in
    let fits : FitsSigned w32 c.to_unix_epoch_day.result = omega (arith, signed_arith, c.to_unix_epoch_day.ensures.bound) in
    to_z-of_z fits ∙ value
