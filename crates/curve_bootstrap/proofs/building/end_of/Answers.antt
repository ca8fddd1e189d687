use Rattle.std.proofs.Common.{arith, sym, ◌≡◌, ◌-◌, suc, length}
use Rattle.curve_bootstrap.proofs.CouponLemmas.{end_at}
use Rattle.curve_bootstrap.proofs.building.end_of.Goals as goal

pub returns : goal.returns
returns c =
    let size : length c.args.coupons.now ≡ suc (length c.args.coupons.now - 1) = omega arith in
    sym (end_at c.args.reference c.args.coupons.now (length c.args.coupons.now - 1) c.index-coupons-count.result size)
