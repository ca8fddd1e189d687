-- Discount curves (QuantLib's InterpolatedDiscountCurve, straight between its nodes).
use Rattle.std.specs.Prelude.{ℕ, ℤ, pos, ◌<ℤ◌, ◌^◌, List, [], ◌∷◌}
use Rattle.curve_points.specs.declared.curves.CurveNode.{CurveNode}

-- a curve as its owner, its reference day and its nodes
pub record Curve : Type 0 where
  pub owner : ℕ
  pub reference : ℤ
  pub nodes : List CurveNode

-- the nodes' days rise strictly, the first after the day
abbrev pub IsRisingFrom : ℤ → List CurveNode → Type 0
IsRisingFrom day [] = Unit {0}
IsRisingFrom day (node ∷ nodes) = (day <ℤ node.day) × IsRisingFrom node.day nodes

-- where a curve begins: the factor 1 at its reference day
abbrev pub origin : ℤ → CurveNode
origin reference = record { day = reference; factor = pos (10 ^ 12) }

-- the nodes of a curve behind its beginning
abbrev pub points : Curve → List CurveNode
points curve = origin curve.reference ∷ curve.nodes
