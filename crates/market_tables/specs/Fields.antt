-- The fields that a table gave, by position.
use Rattle.std.specs.Prelude.{ℕ, zero, suc, List, [], ◌∷◌, Option, None}

-- the field of the key at a position, where the table has it
abbrev pub field_in : {F : Type 0} → List (Option F) → ℕ → Option F
field_in [] at = None
field_in (f ∷ fs) zero = f
field_in (f ∷ fs) (suc at) = field_in fs at

-- the fields without the one at a position
abbrev pub without : {F : Type 0} → List (Option F) → ℕ → List (Option F)
without [] at = []
without (f ∷ fs) zero = None ∷ fs
without (f ∷ fs) (suc at) = f ∷ without fs at
