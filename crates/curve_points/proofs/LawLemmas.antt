-- The laws of discount curves.
use Rattle.std.proofs.Common.{◌≡◌, ℕ, zero, suc, ℤ, pos, ◌<ℤ◌, ◌≤ℤ◌, false, refl, sym, ap, subst, ◌∙◌, arith, int_lt, int_eq, List, [], ◌∷◌, Some, Ok}
use Rattle.std.specs.List.{slice_get}
use Rattle.std.proofs.lemmas.Int.{ints}
use Rattle.std.proofs.lemmas.Option.{slice_get_within, get_or_from_slice_get}
use Rattle.curve_points.specs.declared.curves.CurveNode.{CurveNode}
use Rattle.curve_points.specs.Curve.{Curve, IsRisingFrom, origin, points}
use Rattle.curve_points.specs.Segment.{on_segment}
use Rattle.curve_points.specs.Point.{beyond}
use Rattle.curve_points.specs.Laws.{Holds, AreFactors, LiesBetween, SegmentGivesTheFactor, NodeDayGivesItsFactor, FactorLiesBetween}
use Rattle.curve_points.proofs.PointLemmas.{is_lt, is_not_lt, discount_beyond}
use Rattle.curve_points.proofs.SegmentLemmas.{between_lies, between_end}

-- the segment that holds a day is the one that the curve goes on by
segment_beyond : (from : CurveNode) (nodes : List CurveNode) (k : ℕ) (start end : CurveNode) (day : ℤ) → IsRisingFrom from.day nodes
    → slice_get (from ∷ nodes) k ≡ Some start → slice_get nodes k ≡ Some end → start.day <ℤ day → day ≤ℤ end.day
    → (from.day <ℤ day) × (beyond from nodes day ≡ Some (on_segment start end day))
unfolding beyond
segment_beyond from [] k start end day rising first second after within = absurd cc
segment_beyond from (to ∷ nodes) zero start end day rising first second after within =
    let s : start ≡ from = cc in
    let e : end ≡ to = cc in
    let late : from.day <ℤ day = subst (λ (n : CurveNode). n.day <ℤ day) s after in
    let test = is_not_lt to.day day (subst (λ (n : CurveNode). day ≤ℤ n.day) e within) in
    (late, rw test (ap (λ (n : CurveNode). Some (on_segment n to day)) (sym s) ∙ ap (λ (n : CurveNode). Some (on_segment start n day)) (sym e)))
segment_beyond from (to ∷ nodes) (suc k) start end day rising first second after within =
    let next = segment_beyond to nodes k start end day rising.1 first second after within in
    let here = rising.0 in
    let test = is_lt to.day day next.0 in
    (omega (arith, ints, here, next.0), rw test next.1)

-- a day after another is not at it nor before it
later_day : (a b : ℤ) → b <ℤ a → (int_lt a b ≡ false) × (int_eq a b ≡ false)
later_day a b h = (grind (arith, ints), grind (arith, ints))

pub segment_gives : SegmentGivesTheFactor
segment_gives curve start end day rising holds =
    let found = segment_beyond (origin curve.reference) curve.nodes holds.place start end day rising holds.first holds.second holds.after holds.within in
    let tests = later_day day curve.reference found.0 in
    sym (discount_beyond curve day (Some (on_segment start end day)) tests.0 tests.1 (sym found.1))

-- the point before a node
point_before : (from : CurveNode) (nodes : List CurveNode) (k : ℕ) (node : CurveNode) → IsRisingFrom from.day nodes → slice_get nodes k ≡ Some node
    → (start : CurveNode) × (slice_get (from ∷ nodes) k ≡ Some start) × (start.day <ℤ node.day)
point_before from [] k node rising is = absurd cc
point_before from (to ∷ nodes) zero node rising is =
    let e : to ≡ node = cc in
    (from, refl, subst (λ (n : CurveNode). from.day <ℤ n.day) e rising.0)
point_before from (to ∷ nodes) (suc k) node rising is = point_before to nodes k node rising.1 is

pub node_day_gives : NodeDayGivesItsFactor
node_day_gives curve node place rising is =
    let before = point_before (origin curve.reference) curve.nodes place node rising is in
    let holds : Holds curve before.0 node node.day =
    record { place = place; first = before.1; second = is; after = before.2; within = omega (arith, ints) } in
    segment_gives curve before.0 node node.day rising holds ∙ ap Ok (between_end before.0.day node.day before.0.factor node.factor before.2)

-- the factor of a point is above zero
point_factor : (curve : Curve) (k : ℕ) (node : CurveNode) → AreFactors curve → slice_get (points curve) k ≡ Some node → pos 0 ≤ℤ node.factor
point_factor curve zero node factors is =
    let e : origin curve.reference ≡ node = cc in
    subst (λ (n : CurveNode). pos 0 ≤ℤ n.factor) e (omega (arith, ints))
point_factor curve (suc k) node factors is = node_factor curve k node factors is
  where
    node_factor : (curve : Curve) (k : ℕ) (node : CurveNode) → AreFactors curve → slice_get curve.nodes k ≡ Some node → pos 0 ≤ℤ node.factor
    node_factor curve k node factors is =
        let within = slice_get_within curve.nodes k node is in
        let e = get_or_from_slice_get curve.nodes k node node is in
        let range = subst (λ (n : CurveNode). pos 1 ≤ℤ n.factor) e (factors k node within).0 in
        omega (arith, ints, range)

pub factor_lies : FactorLiesBetween
factor_lies curve start end day factor rising factors holds is =
    let due = segment_gives curve start end day rising holds in
    let same : on_segment start end day ≡ factor = cc in
    let first = point_factor curve holds.place start factors holds.first in
    let last = point_factor curve (suc holds.place) end factors holds.second in
    subst (LiesBetween start.factor end.factor) same
    (between_lies start.day end.day day start.factor end.factor holds.after holds.within first last)
