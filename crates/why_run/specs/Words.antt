-- The words of the command line (this project's profile).
use Rattle.std.specs.Prelude.{ℕ, ◌&&◌, if◌then◌else◌, List, [], ◌∷◌, Option, None, Some}
use Rattle.desk_names.specs.Name.{is_name}
use Rattle.tool_frame.specs.Words.{is_word}
use Rattle.why_run.specs.declared.words.Triple as given

-- the path of a market, that of a script, and a name
pub record Triple : Type 0 where
  pub market : List ℕ
  pub script : List ℕ
  pub name : List ℕ

abbrev pub triple_in : given.Triple → Triple
triple_in triple = record { market = triple.market.now; script = triple.script.now; name = triple.name.now }

abbrev pub triple_with : List ℕ → List ℕ → List ℕ → Option Triple
triple_with market script name =
    if is_word market && (is_word script && is_name name)
    then Some (record { market = market; script = script; name = name })
    else None

-- `MARKET SCRIPT NAME`: there is one list that is taken. NAME has the form of a name, so that the line of an unknown one is one line
abbrev pub triple_of : List (List ℕ) → Option Triple
triple_of (market ∷ script ∷ name ∷ []) = triple_with market script name
triple_of words = None
