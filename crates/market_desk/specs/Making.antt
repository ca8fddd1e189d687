-- A desk of a market's objects (this project's profile).
use Rattle.std.specs.Prelude.{ℕ, ℤ, List, [], ◌∷◌, map}
use Rattle.desk_terms.specs.declared.terms.Terms.{Terms}
use Rattle.desk_model.specs.State.{State}
use Rattle.desk_model.specs.Effect.{start, made}

-- the state after these objects were made, in order
unfoldable pub with_made : List (ℕ × Terms) → State → State
with_made [] state = state
with_made (entry ∷ others) state = with_made others (made entry.1 state)

-- a desk with this evaluation date and these objects: no value is current
abbrev pub desk_with : ℤ → List (ℕ × Terms) → State
desk_with today entries = with_made entries (start today)

-- the numbers of the names of the objects, by the numbers of these: that of `today` is 0
abbrev pub names_with : List (ℕ × Terms) → List ℕ
names_with entries = 0 ∷ map (λ (entry : ℕ × Terms). entry.0) entries
