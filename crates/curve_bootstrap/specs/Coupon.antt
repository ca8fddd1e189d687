-- The coupons of a helper.
use Rattle.std.specs.Prelude.{◌≤◌, ◌<ℤ◌, ◌≤ℤ◌, ℤ, pos, ◌+ℤ◌, List, [], ◌∷◌, length}
use Rattle.std.specs.List.{All}
use Rattle.curve_bootstrap.specs.declared.coupons.Coupon.{Coupon}

-- the sum of what is made of each coupon
unfoldable pub total : (Coupon → ℤ) → List Coupon → ℤ
total f [] = pos 0
total f (coupon ∷ coupons) = f coupon +ℤ total f coupons

-- the parts of a coupon
abbrev pub parts_of : Coupon → ℤ
parts_of coupon = coupon.parts

-- the coupons' days stand in the order of time, the first not before a day
abbrev pub AreOrdered : ℤ → List Coupon → Type 0
AreOrdered day [] = Unit {0}
AreOrdered day (coupon ∷ coupons) = (day ≤ℤ coupon.day) × AreOrdered coupon.day coupons

-- each coupon is paid after a day
abbrev pub AreAfter : ℤ → List Coupon → Type 0
AreAfter day coupons = All (λ coupon. day <ℤ coupon.day) coupons

-- no coupon is paid after a day
abbrev pub AreUpTo : ℤ → List Coupon → Type 0
AreUpTo day coupons = All (λ coupon. coupon.day ≤ℤ day) coupons

-- no parts are below zero
abbrev pub AreParts : List Coupon → Type 0
AreParts coupons = All (λ coupon. pos 0 ≤ℤ coupon.parts) coupons

-- coupons of a helper that runs from a day to another: at most 801, in the order of time, none before the first day nor after the last, and all after the first where the last is
pub record AreCoupons (from end : ℤ) (coupons : List Coupon) : Type 0 where
  pub few : length coupons ≤ 801
  pub ordered : AreOrdered from coupons
  pub up_to : AreUpTo end coupons
  pub after : from <ℤ end → AreAfter from coupons
  pub parts : AreParts coupons
