use Rattle.std.proofs.Common.{◌≡◌, true, false, rules, int_le}
use Rattle.std.proofs.lemmas.List.Sorted.{IsPartitionPoint-from_clause}
use Rattle.std.specs.List.Sorted.{IsPartitionPoint}
use Rattle.curve_bootstrap.specs.declared.coupons.Coupon.{Coupon}
use Rattle.curve_points.proofs.PointLemmas.{le_true, le_false}
use Rattle.curve_bootstrap.proofs.CouponLemmas.{are_parted}
use Rattle.curve_bootstrap.proofs.nodes.reached_by.Goals as goal
use Rattle.curve_bootstrap.proofs.nodes.reached_by.Goals.{After-partition_point}

point : (c : After-partition_point) → IsPartitionPoint (λ (n : Coupon). int_le n.day c.args.day ≡ true) (λ (n : Coupon). int_le n.day c.args.day ≡ false) c.args.coupons.now c.partition_point.result
point c = IsPartitionPoint-from_clause (λ (n : Coupon). int_le n.day c.args.day) _ _ c.partition_point.ensures.partitioned (are_parted c.args.from c.args.coupons.now c.args.day c.requires) (λ a r q k. search rules)

pub returns-clause-before : goal.returns-clause-before
returns-clause-before c = λ k d low high. le_true _ _ ((point c).0 k d low high)

pub returns-clause-after : goal.returns-clause-after
returns-clause-after c = λ k d low high. le_false _ _ ((point c).1 k d low high)
