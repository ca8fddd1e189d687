use Rattle.std.proofs.Common.{arith, refl, ap, sym, subst, ◌∙◌, ◌≡◌, ℤ, ◌≤ℤ◌, int_le, false, Option, None, IsSome}
use Rattle.std.proofs.lemmas.Int.{ints}
use Rattle.day_number.specs.declared.tenors.Tenor.{Tenor}
use Rattle.day_counters.specs.Counter.{frac}
use Rattle.holiday_calendars.specs.Calendar.{is_business_day}
use Rattle.curve_points.proofs.PointLemmas.{le_false}
use Rattle.curve_bootstrap.specs.Built.{led_by, deposit_to}
use Rattle.curve_bootstrap.proofs.CouponLemmas.{coupons_are, only_is}
use Rattle.curve_bootstrap.proofs.plans.deposit_coupon.Goals as goal

after_start : (end reference : ℤ) → int_le end reference ≡ false → reference ≤ℤ end
after_start end reference less = let later = le_false end reference less in omega (arith, ints, later)

pub coupon-only-requires : goal.coupon-only-requires
coupon-only-requires c = after_start c.in-Some.end c.args.reference (sym c.is_not_after.ensures ∙ c.if-is_not_after.false)

pub returns-in-Ok : goal.returns-in-Ok
returns-in-Ok c =
    let there = sym c.deposit_end.ensures ∙ c.in-Some.is in
    let after = after_start c.in-Some.end c.args.reference (sym c.is_not_after.ensures ∙ c.if-is_not_after.false) in
    let parts = frac c.args.helper.now.counter (is_business_day c.args.calendar.now) c.args.reference c.in-Some.end in
    let only = c.in-Ok.ensures.items in
    rw (only, c.coupon-only.ensures) (record {
      due = sym (coupons_are c.args.calendar.now c.args.reference c.args.helper.now None c.requires.kind) ∙ ap (deposit_to c.args.helper.now.counter (is_business_day c.args.calendar.now) c.args.reference) there;
      fits = only_is c.args.reference c.in-Some.end parts after;
      led = subst (λ (every : Option Tenor). IsSome (led_by c.args.calendar.now c.args.reference c.args.helper.now every)) (sym c.requires.kind) (rw there refl);
    })
