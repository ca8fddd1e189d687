-- What is shown of curves, and what is computed for it.
use Rattle.std.specs.Prelude.{ℕ, ℤ, Bool, if◌then◌else◌, List, [], ◌∷◌, Result, Ok, Err}
use Rattle.curve_points.specs.Curve.{Curve}
use Rattle.curve_drawing.specs.declared.lines.Plot.{Plot}
use Rattle.curve_drawing.specs.Lines.{Line}
use Rattle.desk_terms.specs.Reading.{Outcome, Calc}
use Rattle.desk_model.specs.Market.{Market}
use Rattle.market_desk.specs.Standing.{Standing}
use Rattle.curve_drawing.specs.Svg.{picture_text}
use Rattle.curve_drawing.specs.Table.{table_text}
use Rattle.curve_run.specs.Named.{named_of}
use Rattle.curve_run.specs.Plotting.{plotted_lines, unplotted}
use Rattle.curve_run.specs.Pricing.{curves_of, refused_lines, curves_asking}

-- what is wanted of curves: a table or a picture, and what is drawn; with the day of the market
pub record Sheet : Type 0 where
  pub as_table : Bool
  pub plot : Plot
  pub today : ℤ

-- the table or the picture of lines
abbrev pub drawn_text : List (List ℕ) → List ℕ → Sheet → List Line → List ℕ
drawn_text names of_object sheet lines =
    if sheet.as_table then table_text names of_object sheet.plot lines
    else picture_text names of_object sheet.plot sheet.today lines

-- WHAT IS SHOWN of names: a picture or a table, or lines of what stands against it
abbrev pub Shown : Type 0
Shown = Result (List ℕ) (List ℕ)

-- lines, or where there are none what is shown
abbrev pub or_else : List ℕ → Shown → Shown
or_else [] shown = shown
or_else (byte ∷ bytes) shown = Err (byte ∷ bytes)

-- the lines of the curves of which a rate is refused, or where there is none the table or the picture
abbrev pub plotted_text : List (List ℕ) → List ℕ → Sheet → Market → List Curve → Shown
plotted_text names of_object sheet market curves =
    or_else (unplotted names of_object sheet.plot market curves)
    (Ok (drawn_text names of_object sheet (plotted_lines sheet.plot market curves)))

-- the lines of the curves that are refused, or where there is none the table or the picture
abbrev pub priced_text : Calc → Standing → Sheet → List ℕ → Shown
priced_text calc p sheet objects =
    or_else (refused_lines calc p.state.market p.names p.of_object objects)
    (plotted_text p.names p.of_object sheet p.state.market (curves_of calc p.state.market objects))

-- the same of names that may stand for no curves
abbrev pub text_for : Calc → Standing → Sheet → Result (List ℕ) (List ℕ) → Shown
text_for calc p sheet (Ok objects) = priced_text calc p sheet objects
text_for calc p sheet (Err lines) = Err lines

abbrev pub calls_for : Calc → Standing → Result (List ℕ) (List ℕ) → List (ℕ × Outcome)
calls_for calc p (Ok objects) = (curves_asking calc objects p.state).calls
calls_for calc p (Err lines) = []

-- THE PICTURE OR THE TABLE of names, or the lines of what stands against it
unfoldable pub curve_text : Calc → Standing → Sheet → List (List ℕ) → Shown
curve_text calc p sheet texts = text_for calc p sheet (named_of p.state.market p.names texts)

-- THE COMPUTATIONS for names
unfoldable pub curve_calls : Calc → Standing → List (List ℕ) → List (ℕ × Outcome)
curve_calls calc p texts = calls_for calc p (named_of p.state.market p.names texts)

-- all names are curves'
abbrev pub IsFound : Result (List ℕ) (List ℕ) → Type 0
IsFound (Ok objects) = Unit {0}
IsFound (Err lines) = ⊥

abbrev pub AreNamed : Standing → List (List ℕ) → Type 0
AreNamed p texts = IsFound (named_of p.state.market p.names texts)
