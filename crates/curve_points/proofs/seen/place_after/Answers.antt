use Rattle.std.proofs.Common.{rules, int_le}
use Rattle.std.proofs.lemmas.List.Sorted.{IsPartitionPoint-from_clause}
use Rattle.std.specs.List.Sorted.{IsPartitionPoint}
use Rattle.std.proofs.Common.{true, false, ◌≡◌}
use Rattle.curve_points.specs.declared.curves.CurveNode.{CurveNode}
use Rattle.curve_points.proofs.PointLemmas.{le_true, le_false, is_parted_after}
use Rattle.curve_points.proofs.seen.place_after.Goals as goal
use Rattle.curve_points.proofs.seen.place_after.Goals.{After-partition_point}

point : (c : After-partition_point) → IsPartitionPoint (λ (n : CurveNode). int_le n.day c.args.day ≡ true) (λ (n : CurveNode). int_le n.day c.args.day ≡ false) c.args.nodes.now c.partition_point.result
point c = IsPartitionPoint-from_clause (λ (n : CurveNode). int_le n.day c.args.day) _ _ c.partition_point.ensures.partitioned (is_parted_after c.args.reference c.args.nodes.now c.args.day c.requires) (λ a r q k. search rules)

pub returns-clause-before : goal.returns-clause-before
returns-clause-before c = λ k d low high. le_true _ _ ((point c).0 k d low high)

pub returns-clause-after : goal.returns-clause-after
returns-clause-after c = λ k d low high. le_false _ _ ((point c).1 k d low high)
