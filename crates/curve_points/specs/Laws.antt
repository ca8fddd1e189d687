-- Laws of discount curves, in the words of those who build them.
use Rattle.std.specs.Prelude.{◌≡◌, ℕ, ℤ, pos, ◌≤ℤ◌, ◌<ℤ◌, ◌⊎◌, slice_get, Some, Ok}
use Rattle.std.specs.List.{All}
use Rattle.curve_points.specs.declared.curves.CurveNode.{CurveNode}
use Rattle.curve_points.specs.Curve.{Curve, IsRisingFrom, points}
use Rattle.curve_points.specs.Segment.{on_segment, most}
use Rattle.curve_points.specs.Point.{discount_at}
use Rattle.curve_points.specs.Implied.{implied_curve}

-- two nodes follow each other on a curve, its beginning counted as a node, and a day is after the first and not after the second
pub record Holds (curve : Curve) (start end : CurveNode) (day : ℤ) : Type 0 where
  pub place : ℕ
  pub first : slice_get (points curve) place ≡ Some start
  pub second : slice_get curve.nodes place ≡ Some end
  pub after : start.day <ℤ day
  pub within : day ≤ℤ end.day

-- the nodes' factors are discount factors
abbrev pub AreFactors : Curve → Type 0
AreFactors curve = All (λ node. (pos 1 ≤ℤ node.factor) × (node.factor ≤ℤ most)) curve.nodes

-- a number lies between two others
abbrev pub LiesBetween : ℤ → ℤ → ℤ → Type 0
LiesBetween first last x = ((first ≤ℤ x) × (x ≤ℤ last)) ⊎ ((last ≤ℤ x) × (x ≤ℤ first))

-- law: the factor at a day is the one on the segment that holds the day
abbrev pub SegmentGivesTheFactor : Type 0
SegmentGivesTheFactor = (curve : Curve) (start end : CurveNode) (day : ℤ)
    → IsRisingFrom curve.reference curve.nodes → Holds curve start end day
    → discount_at curve day ≡ Ok (on_segment start end day)

-- law: a node's own day gives the node's factor
abbrev pub NodeDayGivesItsFactor : Type 0
NodeDayGivesItsFactor = (curve : Curve) (node : CurveNode) (place : ℕ)
    → IsRisingFrom curve.reference curve.nodes → slice_get curve.nodes place ≡ Some node
    → discount_at curve node.day ≡ Ok node.factor

-- law: between two nodes the factor lies between theirs
abbrev pub FactorLiesBetween : Type 0
FactorLiesBetween = (curve : Curve) (start end : CurveNode) (day factor : ℤ)
    → IsRisingFrom curve.reference curve.nodes → AreFactors curve → Holds curve start end day
    → discount_at curve day ≡ Ok factor → LiesBetween start.factor end.factor factor

-- law: a curve seen from its own reference day is the curve with another owner
abbrev pub SeenFromItsStartIsTheCurve : Type 0
SeenFromItsStartIsTheCurve = (curve : Curve) (owner : ℕ)
    → IsRisingFrom curve.reference curve.nodes → AreFactors curve
    → implied_curve curve owner curve.reference ≡ Ok (record curve { owner = owner })
