-- What is kept of a helper from a reference day.
use Rattle.std.specs.Prelude.{◌≡◌, ℤ, List, Ok, IfSome, IsSome}
use Rattle.holiday_calendars.specs.declared.calendars.Calendar.{Calendar}
use Rattle.curve_terms.specs.declared.terms.Helper.{Helper}
use Rattle.curve_bootstrap.specs.declared.coupons.Coupon.{Coupon}
use Rattle.curve_bootstrap.specs.declared.plans.HelperPlan.{HelperPlan}
use Rattle.curve_bootstrap.specs.Coupon.{AreCoupons}
use Rattle.curve_bootstrap.specs.Built.{coupons_of, end_of, led_to}

-- the coupons of a helper from a reference day, to which its tenor leads
pub record AreKept (calendar : Calendar) (reference : ℤ) (helper : Helper) (coupons : List Coupon) : Type 0 where
  pub due : coupons_of calendar reference helper ≡ Ok coupons
  pub fits : AreCoupons reference (end_of reference coupons) coupons
  pub led : IsSome (led_to calendar reference helper)

-- THE PLAN of a helper: where coupons are kept, they are its coupons from the reference day
abbrev pub IsPlan : Calendar → ℤ → HelperPlan → Type 0
IsPlan calendar reference plan = IfSome plan.coupons (λ coupons. AreKept calendar reference plan.helper coupons.items)
