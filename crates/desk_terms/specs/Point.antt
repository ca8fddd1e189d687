-- The discount factor of an object's curve at a day, or the cause of its refusal (this project's profile).
use Rattle.std.specs.Prelude.{ℕ, ℤ, Result, Ok, Err}
use Rattle.curve_points.specs.declared.points.PointFault.{PointFault}
use Rattle.curve_points.specs.declared.points.PointFault.TheVariants as point
use Rattle.desk_terms.specs.declared.cause.Cause.{Cause}
use Rattle.desk_terms.specs.declared.cause.Cause.TheVariants.{Before, Past}

-- a day before the reference day, or after the last node
abbrev pub point_cause : ℕ → ℤ → PointFault → Cause
point_cause o day point.Before = Before o day
point_cause o day point.Past = Past o day

-- what is found at a day, in the name of an object
abbrev pub found_at : ℕ → ℤ → Result ℤ PointFault → Result ℤ Cause
found_at o day (Ok factor) = Ok factor
found_at o day (Err fault) = Err (point_cause o day fault)
