-- The names of a session, as the list of their texts in order of first use. All of it is this project's profile.
use Rattle.std.specs.Prelude.{ℕ, ◌≢◌, ◌≤◌, Bool, List, [], ◌∷◌, ◌++◌, length, All, AllPairs, if◌then◌else◌}
use Rattle.std.specs.List.{list_any, position_or_len}
use Rattle.std.specs.Str.{bytes_eq}
use Rattle.desk_names.specs.Name.{IsName}

-- how many names a session may have (this project's profile)
abbrev pub most_names : ℕ
most_names = 65536

-- whether the text is among the names
unfoldable pub has_text : List (List ℕ) → List ℕ → Bool
has_text names text = list_any (bytes_eq text) names

-- the names with the text, which goes last where it is new
unfoldable pub with_text : List (List ℕ) → List ℕ → List (List ℕ)
with_text names text = if has_text names text then names else names ++ text ∷ []

-- the least place of the text, or the number of names where it is not among them
unfoldable pub place_of : List (List ℕ) → List ℕ → ℕ
place_of names text = position_or_len (bytes_eq text) names

-- no text twice, each a name, and no more than there may be
pub record IsNames (names : List (List ℕ)) : Type 0 where
  pub distinct : AllPairs (λ one other. one ≢ other) names
  pub named : All IsName names
  pub room : length names ≤ most_names
