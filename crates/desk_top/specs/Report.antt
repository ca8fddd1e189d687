-- What is said of a market that is checked (this project's profile).
use Rattle.std.specs.Prelude.{ℕ, List, [], ◌∷◌, ◌++◌, codes, decimal}

-- the line of a market with so many objects, `today` not counted, and so many stored fixings
abbrev pub check_line : ℕ → ℕ → List ℕ
check_line objects fixings =
    codes "market ok objects " ++ decimal objects ++ codes " fixings " ++ decimal fixings ++ 10 ∷ []
