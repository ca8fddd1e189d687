-- THE TABLE of lines: their points as comma-separated values (RFC 4180, but for its line ends; this project's profile).
-- A name is made of letters, digits and `_`, so nothing has to be quoted.
use Rattle.std.specs.Prelude.{ℕ, List, [], ◌∷◌, ◌++◌, codes}
use Rattle.price_report.specs.Namer.{object_text}
use Rattle.curve_drawing.specs.declared.lines.Plot.{Plot}
use Rattle.curve_drawing.specs.declared.lines.Plot.TheVariants.{Factors, Zeros, Forwards, Pars}
use Rattle.curve_drawing.specs.declared.lines.PlotPoint.{PlotPoint}
use Rattle.curve_drawing.specs.Lines.{Line}
use Rattle.curve_drawing.specs.Points.{point_text}

-- a point: the name of the curve, and the point
unfoldable pub row_text : Plot → List ℕ → PlotPoint → List ℕ
row_text plot name point = name ++ codes "," ++ point_text plot (codes ",") point ++ codes "\n"

unfoldable pub rows_text : Plot → List ℕ → List PlotPoint → List ℕ
rows_text plot name [] = []
rows_text plot name (point ∷ points) = row_text plot name point ++ rows_text plot name points

-- a line: its points
abbrev pub line_rows : List (List ℕ) → List ℕ → Plot → Line → List ℕ
line_rows names of_object plot line = rows_text plot (object_text names of_object line.owner) line.points

unfoldable pub lines_rows : List (List ℕ) → List ℕ → Plot → List Line → List ℕ
lines_rows names of_object plot [] = []
lines_rows names of_object plot (line ∷ lines) = line_rows names of_object plot line ++ lines_rows names of_object plot lines

unfoldable pub table_heading : Plot → List ℕ
table_heading Factors = codes "curve,day,discount\n"
table_heading Zeros = codes "curve,day,zero\n"
table_heading Forwards = codes "curve,from,until,forward\n"
table_heading Pars = codes "curve,day,quoted,par,residual\n"

-- the heading, and a row for each point of each line
unfoldable pub table_text : List (List ℕ) → List ℕ → Plot → List Line → List ℕ
table_text names of_object plot lines = table_heading plot ++ lines_rows names of_object plot lines
