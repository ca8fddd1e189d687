-- The discount factor of a curve at a day.
use Rattle.std.specs.Prelude.{ℤ, int_lt, if◌then◌else◌, List, [], ◌∷◌, Option, Some, None, Result, Ok, Err}
use Rattle.std.specs.Ordering.{int_eq}
use Rattle.curve_points.specs.declared.curves.CurveNode.{CurveNode}
use Rattle.curve_points.specs.declared.points.PointFault.{PointFault}
use Rattle.curve_points.specs.declared.points.PointFault.TheVariants.{Before, Past}
use Rattle.curve_points.specs.Curve.{Curve, origin}
use Rattle.curve_points.specs.Segment.{one, on_segment}

-- the factor at a day after a node from which a curve goes on by others: on the segment whose end is the first node not before the day
unfoldable pub beyond : CurveNode → List CurveNode → ℤ → Option ℤ
beyond from [] day = None
beyond from (to ∷ nodes) day =
    if int_lt to.day day then beyond to nodes day
    else Some (on_segment from to day)

-- a factor that is there, or the day is past the curve
abbrev pub or_past : Option ℤ → Result ℤ PointFault
or_past (Some factor) = Ok factor
or_past None = Err Past

-- the discount factor of a curve at a day (QuantLib's YieldTermStructure::discount, with no extrapolation)
unfoldable pub discount_at : Curve → ℤ → Result ℤ PointFault
discount_at curve day =
    if int_lt day curve.reference then Err Before
    else if int_eq day curve.reference then Ok one
    else or_past (beyond (origin curve.reference) curve.nodes day)
