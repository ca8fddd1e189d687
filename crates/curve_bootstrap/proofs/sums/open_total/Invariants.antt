use Rattle.std.proofs.Common.{◌≡◌, ◌*◌, ◌^◌, pos, ◌≤ℤ◌, take}
use Rattle.curve_bootstrap.specs.Coupon.{total}
use Rattle.curve_bootstrap.specs.Split.{open_of}
use Rattle.curve_bootstrap.proofs.sums.open_total.Given as goal

abbrev pub invariant-loop-coupon : goal.invariant-loop-coupon
invariant-loop-coupon l = record { value : l.sum ≡ total (open_of l.last l.end l.x) (take l.coupon-index l.coupons); low : pos 0 ≤ℤ l.sum; high : l.sum ≤ℤ pos (l.coupon-index * (8 * 10 ^ 24)) }
