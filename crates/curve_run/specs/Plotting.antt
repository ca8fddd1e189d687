-- What is drawn of curves that are priced.
use Rattle.std.specs.Prelude.{ℕ, List, [], ◌∷◌, ◌++◌, Result, Ok, Err}
use Rattle.curve_points.specs.Curve.{Curve}
use Rattle.desk_terms.specs.declared.cause.Cause.{Cause}
use Rattle.curve_drawing.specs.declared.lines.Plot.{Plot}
use Rattle.curve_drawing.specs.Lines.{Line, line_of}
use Rattle.desk_model.specs.Market.{Market}
use Rattle.curve_run.specs.Pricing.{refused_in}
use Rattle.curve_run.specs.Quoted.{quotes_at}

abbrev pub line_in : Result Line Cause → List Line
line_in (Ok line) = line ∷ []
line_in (Err cause) = []

-- the line of a curve of a market
abbrev pub line_at : Plot → Market → Curve → Result Line Cause
line_at plot market curve = line_of plot (quotes_at market curve.owner) curve

-- the lines of these curves that have one, in order
unfoldable pub plotted_lines : Plot → Market → List Curve → List Line
plotted_lines plot market [] = []
plotted_lines plot market (curve ∷ curves) = line_in (line_at plot market curve) ++ plotted_lines plot market curves

-- what is written of those that have none, in order
unfoldable pub unplotted : List (List ℕ) → List ℕ → Plot → Market → List Curve → List ℕ
unplotted names of_object plot market [] = []
unplotted names of_object plot market (curve ∷ curves) =
    refused_in names of_object curve.owner (line_at plot market curve) ++ unplotted names of_object plot market curves
