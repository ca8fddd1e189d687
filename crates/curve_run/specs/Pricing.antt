-- The prices of curves: each afresh from the market alone, and the asks for them.
use Rattle.std.specs.Prelude.{ℕ, List, [], ◌∷◌, ◌++◌, codes, Result, Ok, Err}
use Rattle.curve_points.specs.Curve.{Curve}
use Rattle.desk_terms.specs.declared.cause.Cause.{Cause}
use Rattle.desk_terms.specs.Reading.{Calc}
use Rattle.desk_model.specs.Market.{Market}
use Rattle.desk_model.specs.State.{State}
use Rattle.price_report.specs.Line.{cause_text}
use Rattle.price_report.specs.Namer.{object_text}
use Rattle.bump_model.specs.Asking.{Asking, ask_of, each_asking}
use Rattle.bump_ladder.specs.Curves.{curve_at}

abbrev pub curve_in : Result Curve Cause → List Curve
curve_in (Ok curve) = curve ∷ []
curve_in (Err cause) = []

-- `NAME refused CAUSE`, and a newline
unfoldable pub refused_line : List (List ℕ) → List ℕ → ℕ → Cause → List ℕ
refused_line names of_object o cause =
    object_text names of_object o ++ codes " refused " ++ cause_text names of_object cause ++ codes "\n"

abbrev pub refused_in : {A : Type 0} → List (List ℕ) → List ℕ → ℕ → Result A Cause → List ℕ
refused_in names of_object o (Ok value) = []
refused_in names of_object o (Err cause) = refused_line names of_object o cause

-- the curves of these objects that have one, in order
unfoldable pub curves_of : Calc → Market → List ℕ → List Curve
curves_of calc market [] = []
curves_of calc market (o ∷ objects) = curve_in (curve_at calc market o) ++ curves_of calc market objects

-- the lines of those that have none, in order
unfoldable pub refused_lines : Calc → Market → List (List ℕ) → List ℕ → List ℕ → List ℕ
refused_lines calc market names of_object [] = []
refused_lines calc market names of_object (o ∷ objects) =
    refused_in names of_object o (curve_at calc market o) ++ refused_lines calc market names of_object objects

-- THE ASKS for these objects, in order
abbrev pub curves_asking : Calc → List ℕ → State → Asking
curves_asking calc objects s = each_asking (ask_of calc) objects s
