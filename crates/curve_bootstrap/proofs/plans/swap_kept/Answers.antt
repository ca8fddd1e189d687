use Rattle.std.proofs.Common.{◌∙◌, sym, subst, Option, IsSome, Some}
use Rattle.day_number.specs.declared.tenors.Tenor.{Tenor}
use Rattle.curve_bootstrap.specs.Built.{led_by}
use Rattle.curve_bootstrap.proofs.CouponLemmas.{coupons_are}
use Rattle.curve_bootstrap.proofs.LedLemmas.{led_if}
use Rattle.curve_bootstrap.proofs.plans.swap_kept.Goals as goal

pub returns-in-Ok : goal.returns-in-Ok
returns-in-Ok c = record {
  due = sym (coupons_are c.args.calendar.now c.args.reference c.args.helper.now (Some c.args.every) c.requires.kind) ∙ c.in-Ok.ensures.given;
  fits = c.in-Ok.ensures.fits;
  led = subst (λ (every : Option Tenor). IsSome (led_by c.args.calendar.now c.args.reference c.args.helper.now every)) (sym c.requires.kind) (led_if _ _ c.in-Ok.coupons _ c.in-Ok.ensures.day);
}
