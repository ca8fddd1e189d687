use Rattle.std.proofs.Common.{arith, ap, sym, subst, ◌∙◌, ◌≡◌, false, int_le, List, ℤ, ◌≤ℤ◌}
use Rattle.std.proofs.lemmas.Int.{ints}
use Rattle.day_counters.specs.Counter.{frac}
use Rattle.holiday_calendars.specs.Calendar.{is_business_day}
use Rattle.curve_points.specs.declared.curves.CurveNode.{CurveNode}
use Rattle.curve_points.specs.Curve.{IsRisingFrom}
use Rattle.curve_points.proofs.PointLemmas.{le_false}
use Rattle.curve_bootstrap.specs.Node.{last_of}
use Rattle.curve_bootstrap.specs.Built.{node_at}
use Rattle.curve_bootstrap.proofs.CouponLemmas.{only_is}
use Rattle.curve_bootstrap.proofs.NodeLemmas.{last-after, node_pillar}
use Rattle.curve_bootstrap.proofs.building.deposit_node.Goals as goal

pub returns-then-is_not_after-clause-given : goal.returns-then-is_not_after-clause-given
returns-then-is_not_after-clause-given c =
    let there = sym c.deposit_end.ensures ∙ c.in-Some.is in
    rw there (ap (node_at c.in-Some.end) (node_pillar c.args.from.now c.args.nodes.now c.args.last.now c.in-Some.end c.args.rate _ c.requires.last (sym c.is_not_after.ensures ∙ c.if-is_not_after.true)))

-- an end that is after the last node is after the first
after_first : (from : CurveNode) (nodes : List CurveNode) (last : CurveNode) (end : ℤ) → IsRisingFrom from.day nodes → last ≡ last_of from nodes → int_le end last.day ≡ false → from.day ≤ℤ end
after_first from nodes last end rising is less =
    let after = subst (λ (n : CurveNode). from.day ≤ℤ n.day) (sym is) (last-after from nodes rising) in
    let later = le_false end last.day less in
    omega (arith, ints, after, later)

pub coupon-only-requires : goal.coupon-only-requires
coupon-only-requires c =
    after_first c.args.from.now c.args.nodes.now c.args.last.now c.in-Some.end c.requires.rising c.requires.last (sym c.is_not_after.ensures ∙ c.if-is_not_after.false)

pub node_by-requires-clause-coupons : goal.node_by-requires-clause-coupons
node_by-requires-clause-coupons c =
    rw c.coupon-only.ensures (only_is c.args.from.now.day c.in-Some.end (frac c.args.helper.now.counter (is_business_day c.args.calendar.now) c.args.from.now.day c.in-Some.end)
    (after_first c.args.from.now c.args.nodes.now c.args.last.now c.in-Some.end c.requires.rising c.requires.last (sym c.is_not_after.ensures ∙ c.if-is_not_after.false)))
