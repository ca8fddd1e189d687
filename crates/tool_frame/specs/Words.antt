-- The words of a command line (this project's profile).
use Rattle.std.specs.Prelude.{ℕ, Bool, false, not, ◌&&◌, ◌==◌, if◌then◌else◌, List, [], ◌∷◌, Option, None, Some}
use Rattle.tool_frame.specs.declared.words.Pair as given

-- the code of `-`
abbrev dash : ℕ
dash = 45

-- a word that is taken: not empty, and no option
abbrev pub is_word : List ℕ → Bool
is_word [] = false
is_word (byte ∷ word) = not (byte == dash)

-- the path of a market, and a word behind it
pub record Pair : Type 0 where
  pub market : List ℕ
  pub other : List ℕ

abbrev pub pair_in : given.Pair → Pair
pair_in pair = record { market = pair.market.now; other = pair.other.now }

abbrev pub pair_with : List ℕ → List ℕ → Option Pair
pair_with market other =
    if is_word market && is_word other then Some (record { market = market; other = other }) else None

-- `MARKET WORD`: there is one list that is taken
abbrev pub pair_of : List (List ℕ) → Option Pair
pair_of (market ∷ other ∷ []) = pair_with market other
pair_of words = None
