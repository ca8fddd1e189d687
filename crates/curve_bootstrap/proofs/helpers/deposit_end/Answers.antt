use Rattle.std.proofs.Common.{ap, sym, ◌∙◌, ◌≡◌, ℤ, to_z, of_z, w32}
use Rattle.std.proofs.lemmas.Int.{to_z-of_z}
use Rattle.holiday_calendars.specs.Calendar.{is_business_day}
use Rattle.day_shift.specs.Advanced.{advanced}
use Rattle.curve_bootstrap.proofs.BuiltLemmas.{no_day}
use Rattle.curve_bootstrap.proofs.CouponLemmas.{found_day}
use Rattle.curve_bootstrap.proofs.SwapLemmas.{tenor_fits}
use Rattle.curve_bootstrap.proofs.helpers.deposit_end.Goals as goal
use Rattle.curve_bootstrap.proofs.helpers.deposit_end.Goals.{After-advance}

-- the day by the count as the code has it
day_by : (c : After-advance) → advanced (is_business_day c.args.calendar.now) c.args.helper.now.tenor.unit c.args.helper.now.conv c.args.helper.now.eom c.args.reference c.args.helper.now.tenor.count
    ≡ advanced (is_business_day c.args.calendar.now) c.args.helper.now.tenor.unit c.args.helper.now.conv c.args.helper.now.eom c.args.reference (to_z w32 (of_z w32 c.args.helper.now.tenor.count))
day_by c =
    ap (λ (n : ℤ). advanced (is_business_day c.args.calendar.now) c.args.helper.now.tenor.unit c.args.helper.now.conv c.args.helper.now.eom c.args.reference n)
    (sym (to_z-of_z w32 c.args.helper.now.tenor.count (tenor_fits c.args.helper.now.tenor c.requires)))

pub returns-in-Ok : goal.returns-in-Ok
returns-in-Ok c = sym (day_by c.before ∙ found_day _ c.in-Ok.day c.in-Ok.ensures.value)

pub returns-in-Err : goal.returns-in-Err
returns-in-Err c = sym (day_by c.before ∙ no_day _ c.in-Err.field-0 c.in-Err.ensures.value)
