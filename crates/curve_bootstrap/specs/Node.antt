-- The node of a helper (QuantLib's IterativeBootstrap, in whole numbers).
use Rattle.std.specs.Prelude.{◌*◌, ◌^◌, ℕ, zero, suc, ℤ, pos, neg_ℤ, ◌+ℤ◌, ◌-ℤ◌, ◌*ℤ◌, unsigned_abs, int_le, int_lt, nat_le, Bool, ◌&&◌, ◌||◌, if◌then◌else◌, List, [], ◌∷◌, ◌++◌, Option, Some, None, Result, Ok, Err}
use Rattle.year_parts.specs.Parts.{parts_in_year}
use Rattle.curve_points.specs.declared.curves.CurveNode.{CurveNode}
use Rattle.curve_points.specs.Segment.{one, most}
use Rattle.curve_points.specs.Point.{beyond}
use Rattle.curve_bootstrap.specs.declared.coupons.Coupon.{Coupon}
use Rattle.curve_bootstrap.specs.declared.faults.HelperFault.{HelperFault}
use Rattle.curve_bootstrap.specs.declared.faults.HelperFault.TheVariants.{Pillar, RateRange, Negative, Discount}
use Rattle.curve_bootstrap.specs.Coupon.{total, parts_of}

-- a rate of 1 for a whole year: 10^9 units times the parts of a year
abbrev pub whole : ℤ
whole = pos (10 ^ 9 * parts_in_year)

-- the last node, or where there is none the node that they follow
abbrev pub last_of : CurveNode → List CurveNode → CurveNode
last_of from [] = from
last_of from (node ∷ nodes) = last_of node nodes

-- a factor that is there, else 0
abbrev pub or_zero : Option ℤ → ℤ
or_zero (Some factor) = factor
or_zero None = pos 0

-- the factor at a day on the curve so far, with the factor x added at the end
abbrev pub trial : CurveNode → List CurveNode → ℤ → ℤ → ℤ → ℤ
trial from nodes end x day =
    or_zero (beyond from (nodes ++ record { day = end; factor = x } ∷ []) day)

-- the value of a coupon at that curve
abbrev pub value_of : CurveNode → List CurveNode → ℤ → ℤ → Coupon → ℤ
value_of from nodes end x coupon = coupon.parts *ℤ trial from nodes end x coupon.day

-- what a helper is worth over 1 with the factor x at its end: what is paid there, and its coupons at its rate
unfoldable pub excess : CurveNode → List CurveNode → ℤ → ℤ → List Coupon → ℤ → ℤ
excess from nodes end rate coupons x =
    (x *ℤ whole +ℤ rate *ℤ total (value_of from nodes end x) coupons) -ℤ one *ℤ whole

-- the least number below n that has a property, or n
unfoldable pub least_where : (ℕ → Bool) → ℕ → ℕ
least_where p zero = zero
least_where p (suc n) = if p zero then zero else suc (least_where (λ k. p (suc k)) n)

-- the least factor at which a function is not negative
abbrev pub least_factor : (ℤ → ℤ) → ℤ
least_factor f = pos (least_where (λ x. int_le (pos 0) (f (pos x))) (4 * 10 ^ 12))

-- the least factor, where the function is negative at 0 and not at the greatest factor
abbrev pub root_or_fault : (ℤ → ℤ) → Result ℤ HelperFault
root_or_fault f = if int_le (pos 0) (f (pos 0)) || int_lt (f most) (pos 0) then Err Discount
    else Ok (least_factor f)

-- the rate is below zero, and its size times the parts reaches the whole
abbrev pub is_negative_sum : ℤ → ℤ → Bool
is_negative_sum rate parts = int_lt rate (pos 0) && int_le (rate *ℤ parts) (neg_ℤ whole)

-- the factor of a helper's node behind nodes, or the first of its faults in this order: the end is not after the last node, the rate is beyond 10, the coupons outweigh what is paid at the end, no factor fits (this project's profile)
unfoldable pub node_of : CurveNode → List CurveNode → ℤ → ℤ → List Coupon → Result ℤ HelperFault
node_of from nodes end rate coupons =
    if int_le end (last_of from nodes).day then Err Pillar
    else if nat_le (unsigned_abs rate) (10 ^ 10)
    then (if is_negative_sum rate (total parts_of coupons) then Err Negative
    else root_or_fault (excess from nodes end rate coupons))
    else Err RateRange
