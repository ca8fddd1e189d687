-- The words of the command line (this project's profile).
use Rattle.std.specs.Prelude.{ℕ, ◌&&◌, if◌then◌else◌, List, [], ◌∷◌, Option, None, Some}
use Rattle.desk_words.specs.Words.{is_path}
use Rattle.tool_runs.specs.declared.graph_words.Paths as given

-- the paths of a market and of a script
pub record Paths : Type 0 where
  pub market : List ℕ
  pub script : List ℕ

abbrev pub paths_in : given.Paths → Paths
paths_in paths = record { market = paths.market.now; script = paths.script.now }

-- `MARKET SCRIPT`
abbrev pub paths_with : List ℕ → List ℕ → Option Paths
paths_with market script =
    if is_path market && is_path script then Some (record { market = market; script = script }) else None

-- the paths that words are: there is one list that is taken
abbrev pub paths_of : List (List ℕ) → Option Paths
paths_of (market ∷ script ∷ []) = paths_with market script
paths_of words = None
