-- The rate at which a helper is worth 1 on a curve (QuantLib's RateHelper::impliedQuote, but for the rounding).
use Rattle.std.specs.Prelude.{◌^◌, ◌≤◌, ℤ, pos, ◌-ℤ◌, ◌*ℤ◌, unsigned_abs, int_le, nat_le, List, Result, Ok, Err, if◌then◌else◌}
use Rattle.fixed_amount.specs.Rounding.{closest}
use Rattle.holiday_calendars.specs.declared.calendars.Calendar.{Calendar}
use Rattle.curve_terms.specs.declared.terms.Helper.{Helper}
use Rattle.curve_points.specs.declared.points.PointFault.{PointFault}
use Rattle.curve_points.specs.Curve.{Curve, origin}
use Rattle.curve_points.specs.Point.{discount_at}
use Rattle.curve_points.specs.Segment.{one}
use Rattle.curve_bootstrap.specs.declared.coupons.Coupon.{Coupon}
use Rattle.curve_bootstrap.specs.declared.faults.HelperFault.{HelperFault}
use Rattle.curve_bootstrap.specs.declared.faults.HelperFault.TheVariants.{Pillar, RateRange, Discount}
use Rattle.curve_bootstrap.specs.declared.pars.ParRate.{ParRate}
use Rattle.curve_bootstrap.specs.Built.{coupons_of, end_of}
use Rattle.curve_bootstrap.specs.Coupon.{total}
use Rattle.curve_bootstrap.specs.Node.{whole}
use Rattle.curve_bootstrap.specs.Split.{settled_of}

-- a rate that is within 10 either way
abbrev pub IsWithinTen : ParRate → Type 0
IsWithinTen par = unsigned_abs par.rate ≤ 10 ^ 10

-- such a rate on a day
abbrev pub within_ten : ℤ → ℤ → Result ParRate HelperFault
within_ten end rate =
    if nat_le (unsigned_abs rate) (10 ^ 10) then Ok (record { end = end; rate = rate }) else Err RateRange

-- what is not paid at the end, over what the coupons are worth at a rate of 1, rounded once
abbrev pub par_at : ℤ → Result ℤ PointFault → ℤ → Result ParRate HelperFault
par_at end (Ok last) worth =
    if int_le worth (pos 0) then Err RateRange
    else within_ten end (closest ((one -ℤ last) *ℤ whole) (unsigned_abs worth))
par_at end (Err fault) worth = Err Discount

-- what coupons are worth on a curve at a rate of 1: the sum of their parts of a year, each times the factor at its day
abbrev pub worth_of : Curve → List Coupon → ℤ
worth_of curve coupons = total (settled_of (origin curve.reference) curve.nodes) coupons

-- the rate of coupons that end on a day, which is after the reference day
abbrev pub par_to : Curve → ℤ → List Coupon → Result ParRate HelperFault
par_to curve end coupons =
    if int_le end curve.reference then Err Pillar else par_at end (discount_at curve end) (worth_of curve coupons)

abbrev pub par_over : Curve → Result (List Coupon) HelperFault → Result ParRate HelperFault
par_over curve (Ok coupons) = par_to curve (end_of curve.reference coupons) coupons
par_over curve (Err fault) = Err fault

-- THE PAR RATE of a helper on a curve, with the helper's end
abbrev pub par_rate : Calendar → Curve → Helper → Result ParRate HelperFault
par_rate calendar curve helper = par_over curve (coupons_of calendar curve.reference helper)
