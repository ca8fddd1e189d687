-- The rows of instruments, byte by byte (this project's profile): CSV by RFC 4180 with a newline behind each row. No field
-- needs quotes, since names are letters, digits and `_`. `names` are the texts of the names by their numbers, `of_object`
-- the names of the objects by theirs.
use Rattle.std.specs.Prelude.{ℕ, ℤ, List, [], ◌∷◌, ◌++◌, codes, Option, None, Some, Result, Ok, Err}
use Rattle.fixed_amount.specs.Decimal.{decimal_text}
use Rattle.desk_terms.specs.declared.cause.Cause.{Cause}
use Rattle.desk_terms.specs.declared.kind.Wanted.TheVariants.{Member}
use Rattle.desk_terms.specs.Reading.{Calc}
use Rattle.desk_model.specs.Market.{Market}
use Rattle.price_report.specs.Line.{cause_text}
use Rattle.price_report.specs.Namer.{object_text}
use Rattle.bump_model.specs.declared.ladder.Rung.{Rung}
use Rattle.bump_model.specs.declared.ladder.Bump.{Bump}
use Rattle.bump_model.specs.declared.ladder.Bump.TheVariants.{One, Together}
use Rattle.bump_model.specs.declared.ladder.Missing.TheVariants.{Refused}
use Rattle.bump_model.specs.Sides.{worth}
use Rattle.bump_ladder.specs.Report.{missing_text}
use Rattle.market_desk.specs.declared.named.Unnamed.{Unnamed}
use Rattle.market_desk.specs.Standing.{Standing, object_named, unnamed_word}
use Rattle.tool_risk.specs.declared.figures.Figure.{Figure}
use Rattle.tool_risk.specs.declared.figures.Figure.TheVariants.{Is, Unset, Up, Down}
use Rattle.tool_risk.specs.Figures.{delta_of, gamma_of, delta_in, gamma_in}
use Rattle.tool_risk.specs.FigureSums.{sum_of, beyond, sum_at}
use Rattle.day_number.specs.Day.{day_text}
use Rattle.tool_risk.specs.declared.theta.Gain.{Gain}
use Rattle.tool_risk.specs.declared.theta.Gain.TheVariants as gain
use Rattle.tool_risk.specs.declared.theta.Theta.{Theta}
use Rattle.tool_risk.specs.declared.theta.Theta.TheVariants as theta
use Rattle.tool_risk.specs.Asking.{bumps_in}
use Rattle.tool_risk.specs.Theta.{theta_of}

-- `NAME,MEASURE,LABEL,`
abbrev pub head : List ℕ → List ℕ → List ℕ → List ℕ
head name measure label = name ++ codes "," ++ measure ++ codes "," ++ label ++ codes ","

-- the same with a value behind it, and a newline
abbrev pub row : List ℕ → List ℕ → List ℕ → List ℕ → List ℕ
row name measure label value = head name measure label ++ value ++ codes "\n"

-- an amount with six places, or why there is none
abbrev pub figure_text : List (List ℕ) → List ℕ → Figure → List ℕ
figure_text names of_object (Is units) = decimal_text units 6
figure_text names of_object Unset = codes "unset"
figure_text names of_object (Up why) = codes "up " ++ missing_text names of_object why
figure_text names of_object (Down why) = codes "down " ++ missing_text names of_object why

-- the name of what is moved: of a quote, or of the object for whose sake several are
abbrev pub label_text : List (List ℕ) → List ℕ → Option ℕ → List ℕ
label_text names of_object (Some object) = object_text names of_object object
label_text names of_object None = []

unfoldable pub figure_row : List (List ℕ) → List ℕ → ℕ → List ℕ → Option ℕ → Figure → List ℕ
figure_row names of_object o measure label figure =
    row (object_text names of_object o) measure (label_text names of_object label) (figure_text names of_object figure)

-- ---- what the code writes: the figures of a ladder's rungs

-- `NAME,delta,LABEL,FIGURE` and `NAME,gamma,LABEL,FIGURE`
unfoldable pub rung_rows : List (List ℕ) → List ℕ → ℕ → Rung → List ℕ
rung_rows names of_object o rung =
    figure_row names of_object o (codes "delta") rung.label (delta_in rung)
    ++ figure_row names of_object o (codes "gamma") rung.label (gamma_in rung)

-- `NAME,sum,CURVE,FIGURE` and `NAME,cross,CURVE,FIGURE`: the sum of the single deltas, and what the rung has beyond it
unfoldable pub sum_rows : List (List ℕ) → List ℕ → ℕ → Option ℕ → Figure → Figure → List ℕ
sum_rows names of_object o label sum cross =
    figure_row names of_object o (codes "sum") label sum ++ figure_row names of_object o (codes "cross") label cross

-- none for one quote
unfoldable pub sum_rows_at : List (List ℕ) → List ℕ → ℕ → List Rung → Bump → Rung → List ℕ
sum_rows_at names of_object o all (One q) rung = []
sum_rows_at names of_object o all (Together label quotes) rung =
    sum_rows names of_object o label (sum_at all quotes) (beyond (delta_in rung) (sum_at all quotes))

-- the rows of each rung by its bump, `all` being the rungs of all
unfoldable pub rungs_rows : List (List ℕ) → List ℕ → ℕ → List Rung → List Bump → List Rung → List ℕ
rungs_rows names of_object o all [] rungs = []
rungs_rows names of_object o all (bump ∷ bumps) [] = []
rungs_rows names of_object o all (bump ∷ bumps) (rung ∷ rungs) =
    (rung_rows names of_object o rung ++ sum_rows_at names of_object o all bump rung) ++ rungs_rows names of_object o all bumps rungs

-- an amount with six places, or why there is none
abbrev pub gain_text : List (List ℕ) → List ℕ → Gain → List ℕ
gain_text names of_object (gain.Is units) = decimal_text units 6
gain_text names of_object (gain.Tomorrow cause) = codes "tomorrow " ++ missing_text names of_object (Refused cause)
gain_text names of_object (gain.Paid cause) = codes "paid " ++ missing_text names of_object (Refused cause)

-- the next business day
abbrev pub theta_label : Theta → List ℕ
theta_label (theta.On day gain) = day_text day
theta_label theta.Limit = []

abbrev pub theta_text : List (List ℕ) → List ℕ → Theta → List ℕ
theta_text names of_object (theta.On day gain) = gain_text names of_object gain
theta_text names of_object theta.Limit = codes "limit"

-- `NAME,theta,DAY,GAIN`
unfoldable pub theta_row : List (List ℕ) → List ℕ → ℕ → Theta → List ℕ
theta_row names of_object o theta =
    row (object_text names of_object o) (codes "theta") (theta_label theta) (theta_text names of_object theta)

-- `NAME,value,,AMOUNT`
abbrev pub worth_row : List (List ℕ) → List ℕ → ℕ → ℤ → List ℕ
worth_row names of_object o base = row (object_text names of_object o) (codes "value") [] (decimal_text base 6)

-- the row of what an instrument is worth, and those of each rung of its ladder
unfoldable pub ladder_rows : List (List ℕ) → List ℕ → ℕ → ℤ → List Bump → List Rung → List ℕ
ladder_rows names of_object o base bumps rungs = worth_row names of_object o base ++ rungs_rows names of_object o rungs bumps rungs

-- `NAME,value,,refused CAUSE`
unfoldable pub refused_row : List (List ℕ) → List ℕ → ℕ → Cause → List ℕ
refused_row names of_object o cause =
    row (object_text names of_object o) (codes "value") [] (codes "refused " ++ cause_text names of_object cause)

-- `NAME,value,,refused unknown` or `NAME,value,,refused kind`
unfoldable pub unnamed_row : List ℕ → Unnamed → List ℕ
unnamed_row name why = row name (codes "value") [] (codes "refused " ++ unnamed_word why)

-- ---- what is written

-- what is moved: a quote, or the object for whose sake several are
abbrev pub label_of : Bump → Option ℕ
label_of (One q) = Some q
label_of (Together label quotes) = label

-- of a parallel shift, the sum of the single deltas of its quotes, and what its delta has beyond that
unfoldable pub shift_rows : Calc → ℤ → Market → List (List ℕ) → List ℕ → ℕ → Bump → List ℕ
shift_rows calc size market names of_object o (One q) = []
shift_rows calc size market names of_object o (Together label quotes) =
    sum_rows names of_object o label (sum_of calc size market o quotes)
    (beyond (delta_of calc size market o (Together label quotes)) (sum_of calc size market o quotes))

-- THE FIGURES where quotes are moved: `NAME,delta,LABEL,FIGURE` and `NAME,gamma,LABEL,FIGURE`, of prices afresh
unfoldable pub bump_rows : Calc → ℤ → Market → List (List ℕ) → List ℕ → ℕ → ℤ → Bump → List ℕ
bump_rows calc size market names of_object o base bump =
    (figure_row names of_object o (codes "delta") (label_of bump) (delta_of calc size market o bump)
    ++ figure_row names of_object o (codes "gamma") (label_of bump) (gamma_of calc size market o base bump))
    ++ shift_rows calc size market names of_object o bump

unfoldable pub bumps_rows : Calc → ℤ → Market → List (List ℕ) → List ℕ → ℕ → ℤ → List Bump → List ℕ
bumps_rows calc size market names of_object o base [] = []
bumps_rows calc size market names of_object o base (bump ∷ bumps) =
    bump_rows calc size market names of_object o base bump ++ bumps_rows calc size market names of_object o base bumps

-- THE ROWS of an instrument in a market, by what it is worth
abbrev pub text_by : Calc → ℤ → Market → List (List ℕ) → List ℕ → ℕ → Result ℤ Cause → List ℕ
text_by calc size market names of_object o (Ok base) =
    (worth_row names of_object o base ++ bumps_rows calc size market names of_object o base (bumps_in market o))
    ++ theta_row names of_object o (theta_of calc market o base)
text_by calc size market names of_object o (Err cause) = refused_row names of_object o cause

-- the same of a name that may be no instrument's
abbrev pub text_for : Calc → ℤ → Market → List (List ℕ) → List ℕ → List ℕ → Result ℕ Unnamed → List ℕ
text_for calc size market names of_object name (Ok o) = text_by calc size market names of_object o (worth calc market o)
text_for calc size market names of_object name (Err why) = unnamed_row name why

unfoldable pub name_text : Calc → ℤ → Market → List (List ℕ) → List ℕ → List ℕ → List ℕ
name_text calc size market names of_object name =
    text_for calc size market names of_object name (object_named Member market names name)

unfoldable pub names_text : Calc → ℤ → Market → List (List ℕ) → List ℕ → List (List ℕ) → List ℕ
names_text calc size market names of_object [] = []
names_text calc size market names of_object (name ∷ texts) =
    name_text calc size market names of_object name ++ names_text calc size market names of_object texts

-- THE TEXT: the heading, and the rows of each name
unfoldable pub risk_text : Calc → Standing → ℤ → List (List ℕ) → List ℕ
risk_text calc p size texts =
    codes "name,measure,quote,value\n" ++ names_text calc size p.state.market p.names p.of_object texts
