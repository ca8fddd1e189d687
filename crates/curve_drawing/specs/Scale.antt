-- What lies where in a picture of curves: all whole numbers (this project's profile).
use Rattle.std.specs.Prelude.{ℕ, ℤ, ◌+◌, ◌-◌, ◌*◌, ◌%◌, ◌≤◌, max, Bool, ◌&&◌, nat_le, if◌then◌else◌, List, [], ◌∷◌}
use Rattle.std.specs.Int.{div_ceil}
use Rattle.curve_drawing.specs.declared.lines.Plot.{Plot}
use Rattle.curve_drawing.specs.declared.points.Corner.{Corner}
use Rattle.curve_drawing.specs.declared.scale.Scale.{Scale}
use Rattle.curve_drawing.specs.declared.scale.TheConstants.{STEPS, MOST_STEP, STRIDES, MOST_STRIDE, DAY, YEAR, MOST_DAYS}
use Rattle.curve_drawing.specs.Points.{first_day, span_from, lowest, highest, some_height}

-- the first of these steps that is at least so long, or else the last
unfoldable pub first_from : ℕ → List ℕ → ℕ → ℕ
first_from need [] last = last
first_from need (step ∷ steps) last = if nat_le need step then step else first_from need steps last

-- the step of the axis of values: at most ten steps reach so many units
abbrev pub step_for : ℕ → ℕ
step_for reach = first_from (div_ceil reach 10) STEPS MOST_STEP

-- what the axis of days counts, by how many it spans, in hundredths of a day: days, or where those are many, years of 365.25
abbrev pub unit_for : ℕ → ℕ
unit_for span = if nat_le span MOST_DAYS then DAY else YEAR

-- how many of these lie between two marks: at most ten times as many reach so many days
abbrev pub stride_for : ℕ → ℕ → ℕ
stride_for span unit = first_from (div_ceil (span * 10) unit) STRIDES MOST_STRIDE

-- the least multiple of a step that reaches so many units, and at least the step
abbrev pub multiple_from : ℕ → ℕ → ℕ
multiple_from reach step = max (reach + (step - reach % step) % step) step

-- The axis of days from a day on; that of values from the greatest multiple of its step that is not above the lowest, to
-- the least that is not below the highest.
abbrev pub scale_from : Plot → ℤ → ℕ → ℕ → ℕ → ℕ → Scale
scale_from plot first span step low reach = record {
  plot = plot;
  first = first;
  span = span;
  unit = unit_for span;
  stride = stride_for span (unit_for span);
  low = low;
  step = step;
  rise = multiple_from reach step;
}

abbrev pub scale_by : Plot → ℤ → ℕ → ℕ → ℕ → ℕ → Scale
scale_by plot first span lowest highest step =
    scale_from plot first span step (lowest - lowest % step) (highest - (lowest - lowest % step))

abbrev pub scale_above : Plot → ℤ → ℕ → ℕ → ℕ → Scale
scale_above plot first span lowest highest = scale_by plot first span lowest highest (step_for (highest - lowest))

-- THE SCALE of corners: the axis of days begins with the earliest of them and of a day, and ends with the last
unfoldable pub scale_of : Plot → ℤ → List Corner → Scale
scale_of plot today corners =
    scale_above plot (first_day today corners) (span_from (first_day today corners) corners)
    (lowest (some_height plot corners) corners) (highest (some_height plot corners) corners)

-- a length that a step may have
abbrev pub is_step : ℕ → Bool
is_step step = nat_le 1 step && nat_le step 1_000_000_000_000

-- how large the parts of a scale are
pub record IsScale (scale : Scale) : Type 0 where
  pub some : 1 ≤ scale.span
  pub span : scale.span ≤ 110_000
  pub day : 1 ≤ scale.unit
  pub year : scale.unit ≤ 100_000
  pub some_stride : 1 ≤ scale.stride
  pub stride : scale.stride ≤ 1_000_000_000_000
  pub low : scale.low ≤ 10_000_000_000_000
  pub unit : 1 ≤ scale.step
  pub step : scale.step ≤ 1_000_000_000_000
  pub some_rise : 1 ≤ scale.rise
  pub rise : scale.rise ≤ 100_000_000_000_000
