-- Lists of points of which one may be refused.
use Rattle.std.specs.Prelude.{◌≡◌, List, ◌∷◌, Result, Ok, Err, Vec}
use Rattle.std.specs.declared.alloc.Global.{Global}
use Rattle.desk_terms.specs.declared.cause.Cause.{Cause}
use Rattle.curve_drawing.specs.declared.lines.PlotPoint.{PlotPoint}

-- a point, and those behind it; the first that is refused is the answer
abbrev pub then_points : PlotPoint → Result (List PlotPoint) Cause → Result (List PlotPoint) Cause
then_points point (Ok points) = Ok (point ∷ points)
then_points point (Err cause) = Err cause

-- the same of a point that may be refused
abbrev pub point_then : Result PlotPoint Cause → Result (List PlotPoint) Cause → Result (List PlotPoint) Cause
point_then (Ok point) rest = then_points point rest
point_then (Err cause) rest = Err cause

-- points that were made are these
abbrev pub PointsAre : Result (Vec PlotPoint Global) Cause → Result (List PlotPoint) Cause → Type 0
PointsAre (Ok points) wanted = wanted ≡ Ok points.items
PointsAre (Err cause) wanted = wanted ≡ Err cause
