-- The points of lines as corners, which are days and heights, and how far they reach.
use Rattle.std.specs.Prelude.{ℕ, ℤ, pos, ◌-ℤ◌, ◌+ℤ◌, ◌^◌, unsigned_abs, int_lt, min, max, if◌then◌else◌, List, [], ◌∷◌, ◌++◌}
use Rattle.day_number.specs.Day.{day_text}
use Rattle.fixed_amount.specs.Decimal.{decimal_text}
use Rattle.curve_drawing.specs.declared.lines.Plot.{Plot}
use Rattle.curve_drawing.specs.declared.lines.Plot.TheVariants.{Factors, Zeros, Forwards, Pars}
use Rattle.curve_drawing.specs.declared.lines.PlotPoint.{PlotPoint}
use Rattle.curve_drawing.specs.Lines.{Line}
use Rattle.curve_drawing.specs.declared.points.Corner.{Corner}

-- how many places a value has: factors are in units of 10^-12, rates in units of 10^-9
abbrev pub digits_of : Plot → ℕ
digits_of Factors = 12
digits_of Zeros = 9
digits_of Forwards = 9
digits_of Pars = 9

-- the height of the value 0: rates lie within 10 either way
abbrev pub base_of : Plot → ℕ
base_of Factors = 0
base_of Zeros = 10 ^ 10
base_of Forwards = 10 ^ 10
base_of Pars = 10 ^ 10

-- the height of a value
abbrev pub height_of : Plot → ℤ → ℕ
height_of plot units = unsigned_abs (units +ℤ pos (base_of plot))

abbrev pub corner : ℤ → ℕ → Corner
corner day height = record { day = day; height = height }

-- the corners of a point: forward rates are steps, from a day until another
abbrev pub corners_of : Plot → PlotPoint → List Corner
corners_of Factors point = corner point.until (height_of Factors point.units) ∷ []
corners_of Zeros point = corner point.until (height_of Zeros point.units) ∷ []
corners_of Pars point = corner point.until (height_of Pars point.units) ∷ []
corners_of Forwards point =
    corner point.from (height_of Forwards point.units) ∷ corner point.until (height_of Forwards point.units) ∷ []

-- the corners of a line, and of all lines
unfoldable pub line_corners : Plot → List PlotPoint → List Corner
line_corners plot [] = []
line_corners plot (point ∷ points) = corners_of plot point ++ line_corners plot points

unfoldable pub all_corners : Plot → List Line → List Corner
all_corners plot [] = []
all_corners plot (line ∷ lines) = line_corners plot line.points ++ all_corners plot lines

abbrev pub earlier : ℤ → ℤ → ℤ
earlier day other = if int_lt day other then day else other

-- the earliest day of the corners and of another day
unfoldable pub first_day : ℤ → List Corner → ℤ
first_day today [] = today
first_day today (corner ∷ corners) = earlier corner.day (first_day today corners)

-- how many days lie between two days
abbrev pub days_from : ℤ → ℤ → ℕ
days_from from to = unsigned_abs (from -ℤ to)

-- the most days from a day to a corner, at least 1
unfoldable pub span_from : ℤ → List Corner → ℕ
span_from first [] = 1
span_from first (corner ∷ corners) = max (days_from first corner.day) (span_from first corners)

-- the least height of the corners and another
unfoldable pub lowest : ℕ → List Corner → ℕ
lowest other [] = other
lowest other (corner ∷ corners) = min corner.height (lowest other corners)

-- the greatest height of the corners and another
unfoldable pub highest : ℕ → List Corner → ℕ
highest other [] = other
highest other (corner ∷ corners) = max corner.height (highest other corners)

-- a height that is reached in any case: the factor 1, or else that of the first corner
abbrev pub first_height : ℕ → List Corner → ℕ
first_height base [] = base
first_height base (corner ∷ corners) = corner.height

abbrev pub some_height : Plot → List Corner → ℕ
some_height Factors corners = 10 ^ 12
some_height Zeros corners = first_height (10 ^ 10) corners
some_height Forwards corners = first_height (10 ^ 10) corners
some_height Pars corners = first_height (10 ^ 10) corners

-- a day, and behind a separator a value of so many places
unfoldable pub dated_text : List ℕ → ℤ → ℤ → ℕ → List ℕ
dated_text separator day units places = day_text day ++ separator ++ decimal_text units places

-- a day, and the same of a rate until another
unfoldable pub from_text : List ℕ → ℤ → ℤ → ℤ → List ℕ
from_text separator from until units = day_text from ++ separator ++ dated_text separator until units 9

-- a par rate, and its residual: how far it is above its quote
unfoldable pub par_text : List ℕ → PlotPoint → List ℕ
par_text separator point =
    decimal_text point.units 9 ++ separator ++ decimal_text (point.units -ℤ point.quoted) 9

-- the day of a par rate, its quote, itself, and its residual
unfoldable pub quoted_text : List ℕ → PlotPoint → List ℕ
quoted_text separator point =
    dated_text separator point.until point.quoted 9 ++ separator ++ par_text separator point

-- the day of a point, and behind a separator the factor with twelve places, or the rate with nine; of a forward rate both days, of a
-- par rate its quote too, and its residual
abbrev pub point_text : Plot → List ℕ → PlotPoint → List ℕ
point_text Factors separator point = dated_text separator point.until point.units 12
point_text Zeros separator point = dated_text separator point.until point.units 9
point_text Forwards separator point = from_text separator point.from point.until point.units
point_text Pars separator point = quoted_text separator point
