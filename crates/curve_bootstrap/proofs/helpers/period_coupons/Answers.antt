use Rattle.std.proofs.Common.{◌∙◌, ap, take, List, ◌++◌, ◌∷◌, []}
use Rattle.holiday_calendars.specs.Calendar.{is_business_day}
use Rattle.curve_bootstrap.specs.declared.coupons.Coupon.{Coupon}
use Rattle.curve_bootstrap.specs.Built.{periods}
use Rattle.curve_bootstrap.proofs.CouponLemmas.{sorted_step, periods_more}
use Rattle.curve_bootstrap.proofs.helpers.period_coupons.Goals as goal

pub coupon-requires : goal.coupon-requires
coupon-requires c =
    sorted_step c.args.dates.now c.loop-at.at c.index-dates-at.result c.index-dates-at-in-loop-at.result c.requires c.loop-at.auto.at c.loop-at-test.true c.index-dates-at.is c.index-dates-at-in-loop-at.is

pub loop-at-preserved : goal.loop-at-preserved
loop-at-preserved c =
    let more = periods_more c.args.counter (is_business_day c.args.calendar.now) c.args.dates.now c.loop-at.at c.index-dates-at.result c.index-dates-at-in-loop-at.result c.loop-at.auto.at c.loop-at-test.true c.index-dates-at.is c.index-dates-at-in-loop-at.is in
    rw more (c.in_ok-push.ensures.items ∙ (ap (λ (cs : List Coupon). cs ++ c.coupon.result ∷ []) c.loop-at.invariant
    ∙ ap (λ (k : Coupon). periods c.args.counter (is_business_day c.args.calendar.now) (take c.loop-at.at c.args.dates.now) ++ k ∷ []) c.coupon.ensures))
