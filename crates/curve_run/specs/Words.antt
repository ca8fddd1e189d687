-- The words of the command line (this project's profile).
use Rattle.std.specs.Prelude.{ℕ, Bool, true, false, ◌&&◌, nat_le, if◌then◌else◌, List, [], ◌∷◌, length, map, codes, Option, None, Some}
use Rattle.std.specs.List.{list_all}
use Rattle.std.specs.Str.{bytes_eq}
use Rattle.std.specs.String.{string_bytes}
use Rattle.curve_drawing.specs.declared.lines.Plot.{Plot}
use Rattle.curve_drawing.specs.declared.lines.Plot.TheVariants.{Factors, Zeros, Forwards, Pars}
use Rattle.tool_frame.specs.Words.{is_word}
use Rattle.curve_run.specs.declared.words.Request as given
use Rattle.curve_run.specs.declared.words.TheConstants.{MOST_CURVES}

-- a table or a picture, what is drawn, the path of a market, and the names of curves
pub record Request : Type 0 where
  pub as_table : Bool
  pub plot : Plot
  pub market : List ℕ
  pub curves : List (List ℕ)

-- words of the code, as the definition sees them
abbrev pub request_in : given.Request → Request
request_in request = record {
  as_table = request.as_table;
  plot = request.plot;
  market = request.market.now;
  curves = map string_bytes request.curves.now;
}

-- the option of a table
abbrev pub is_flag : List ℕ → Bool
is_flag word = bytes_eq word (codes "--csv")

-- what is drawn by an option
abbrev pub plot_flag : List ℕ → Option Plot
plot_flag word =
    if bytes_eq word (codes "--zero") then Some Zeros else if bytes_eq word (codes "--forward") then Some Forwards
    else if bytes_eq word (codes "--par") then Some Pars else None

-- there is a name, and there are no more than there may be
abbrev pub are_some : List (List ℕ) → Bool
are_some [] = false
are_some (name ∷ names) = nat_le (length (name ∷ names)) MOST_CURVES

-- `MARKET NAME [CURVE..]`
abbrev pub request_with : Bool → Plot → List (List ℕ) → Option Request
request_with as_table plot [] = None
request_with as_table plot (market ∷ curves) =
    if is_word market && (are_some curves && list_all is_word curves)
    then Some (record { as_table = as_table; plot = plot; market = market; curves = curves })
    else None

-- the same behind a word that may be an option: without one, factors are drawn
abbrev pub request_by : Bool → Option Plot → List ℕ → List (List ℕ) → Option Request
request_by as_table None first words = request_with as_table Factors (first ∷ words)
request_by as_table (Some plot) first words = request_with as_table plot words

abbrev pub request_drawn : Bool → List (List ℕ) → Option Request
request_drawn as_table [] = None
request_drawn as_table (first ∷ words) = request_by as_table (plot_flag first) first words

-- what the words ask for: `--csv` may stand before the others, and `--zero`, `--forward` or `--par` behind it
abbrev pub request_of : List (List ℕ) → Option Request
request_of [] = None
request_of (first ∷ words) =
    if is_flag first then request_drawn true words else request_drawn false (first ∷ words)
