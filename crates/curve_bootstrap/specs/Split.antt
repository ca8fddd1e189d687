-- The excess of a helper in two parts: what does not depend on the factor at its end, and what does.
use Rattle.std.specs.Prelude.{◌⊎◌, ◌<ℤ◌, ◌≤ℤ◌, ℤ, pos, ◌+ℤ◌, ◌-ℤ◌, ◌*ℤ◌, List, Option, Some, None}
use Rattle.curve_points.specs.declared.curves.CurveNode.{CurveNode}
use Rattle.curve_points.specs.Segment.{one, most, between}
use Rattle.curve_points.specs.Point.{beyond}
use Rattle.curve_bootstrap.specs.declared.coupons.Coupon.{Coupon}
use Rattle.curve_bootstrap.specs.Coupon.{total}
use Rattle.curve_bootstrap.specs.Node.{whole, or_zero}

-- the value of a coupon that the nodes so far reach
abbrev pub settled_of : CurveNode → List CurveNode → Coupon → ℤ
settled_of from nodes coupon = coupon.parts *ℤ or_zero (beyond from nodes coupon.day)

-- the value of a coupon behind the last node, with a factor at the end
abbrev pub open_of : CurveNode → ℤ → ℤ → Coupon → ℤ
open_of last end x coupon = coupon.parts *ℤ between last.day last.factor end x coupon.day

-- the excess, where the value of the coupons that the nodes reach is known and the others are given
unfoldable pub split_excess : CurveNode → ℤ → ℤ → ℤ → List Coupon → ℤ → ℤ
split_excess last end rate settled coupons x =
    (x *ℤ whole +ℤ rate *ℤ (settled +ℤ total (open_of last end x) coupons)) -ℤ one *ℤ whole

-- a number at which a function is not negative and below which it is; none where it is not negative at 0, or negative at the greatest factor
abbrev pub IsRoot : (ℤ → ℤ) → Option ℤ → Type 0
IsRoot f (Some x) =
    (f (pos 0) <ℤ pos 0) × (pos 0 ≤ℤ f most) × (pos 1 ≤ℤ x) × (x ≤ℤ most) × (pos 0 ≤ℤ f x) × (f (x -ℤ pos 1) <ℤ pos 0)
IsRoot f None = (pos 0 ≤ℤ f (pos 0)) ⊎ (f most <ℤ pos 0)
