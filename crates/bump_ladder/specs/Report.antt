-- The lines of a ladder of bumps, byte by byte (this project's profile). `names` are the texts of the names by their
-- numbers, `of_object` the names of the objects by theirs.
use Rattle.std.specs.Prelude.{ℕ, ℤ, List, [], ◌∷◌, ◌++◌, codes, decimal, Option, None, Some}
use Rattle.fixed_amount.specs.Decimal.{decimal_text}
use Rattle.desk_terms.specs.declared.cause.Cause.{Cause}
use Rattle.price_report.specs.Line.{cause_text}
use Rattle.price_report.specs.Namer.{object_text}
use Rattle.bump_model.specs.declared.ladder.Side.{Side}
use Rattle.bump_model.specs.declared.ladder.Side.TheVariants.{Moved, NoPrice, Unset}
use Rattle.bump_model.specs.declared.ladder.Missing.{Missing}
use Rattle.bump_model.specs.declared.ladder.Missing.TheVariants.{Refused, Limit}
use Rattle.bump_model.specs.declared.ladder.Rung.{Rung}

-- why there is no price: a refusal with its cause, or the limit of rates
abbrev pub missing_text : List (List ℕ) → List ℕ → Missing → List ℕ
missing_text names of_object (Refused cause) = codes "refused " ++ cause_text names of_object cause
missing_text names of_object Limit = codes "limit"

-- a gain with six places, or why there is none
abbrev pub side_text : List (List ℕ) → List ℕ → Side → List ℕ
side_text names of_object (Moved units) = decimal_text units 6
side_text names of_object (NoPrice why) = missing_text names of_object why
side_text names of_object Unset = codes "unset"

-- both sides; of a quote without a value that it has none
abbrev pub up_down_text : List (List ℕ) → List ℕ → Side → Side → List ℕ
up_down_text names of_object up down =
    codes " up " ++ side_text names of_object up ++ codes " down " ++ side_text names of_object down

abbrev pub sides_text : List (List ℕ) → List ℕ → Side → Side → List ℕ
sides_text names of_object (Moved units) down = up_down_text names of_object (Moved units) down
sides_text names of_object (NoPrice why) down = up_down_text names of_object (NoPrice why) down
sides_text names of_object Unset down = codes " unset"

-- the name of a rung's quote, or that all are moved
abbrev pub label_text : List (List ℕ) → List ℕ → Option ℕ → List ℕ
label_text names of_object (Some quote) = object_text names of_object quote
label_text names of_object None = codes "all"

-- `QUOTE up SIDE down SIDE`, `QUOTE unset` or `all up SIDE down SIDE`, and a newline
unfoldable pub rung_line : List (List ℕ) → List ℕ → Rung → List ℕ
rung_line names of_object rung =
    label_text names of_object rung.label ++ sides_text names of_object rung.up rung.down ++ codes "\n"

unfoldable pub rung_lines : List (List ℕ) → List ℕ → List Rung → List ℕ
rung_lines names of_object [] = []
rung_lines names of_object (rung ∷ rungs) = rung_line names of_object rung ++ rung_lines names of_object rungs

-- `runs N` and a newline: N counts the computations that were made
unfoldable pub runs_line : ℕ → List ℕ
runs_line runs = codes "runs " ++ decimal runs ++ codes "\n"

-- `NAME base AMOUNT`, a line for each rung, and `runs N`
unfoldable pub ladder_lines : List (List ℕ) → List ℕ → ℕ → ℤ → List Rung → ℕ → List ℕ
ladder_lines names of_object o base rungs runs =
    object_text names of_object o ++ codes " base " ++ decimal_text base 6 ++ codes "\n"
    ++ rung_lines names of_object rungs ++ runs_line runs

-- `NAME refused CAUSE` and `runs N`
unfoldable pub refused_lines : List (List ℕ) → List ℕ → ℕ → Cause → ℕ → List ℕ
refused_lines names of_object o cause runs =
    object_text names of_object o ++ codes " refused " ++ cause_text names of_object cause ++ codes "\n" ++ runs_line runs
