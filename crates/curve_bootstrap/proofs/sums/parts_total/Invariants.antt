use Rattle.std.proofs.Common.{◌≡◌, ◌*◌, ◌^◌, pos, ◌≤ℤ◌, take}
use Rattle.curve_bootstrap.specs.Coupon.{total, parts_of}
use Rattle.curve_bootstrap.proofs.sums.parts_total.Given as goal

abbrev pub invariant-loop-coupon : goal.invariant-loop-coupon
invariant-loop-coupon l = record { value : l.sum ≡ total parts_of (take l.coupon-index l.coupons); low : pos 0 ≤ℤ l.sum; high : l.sum ≤ℤ pos (l.coupon-index * (2 * 10 ^ 12)) }
