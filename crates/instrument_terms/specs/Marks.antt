-- Marks of the members of parts.
use Rattle.std.specs.Prelude.{◌≡◌, ℕ, ◌<◌, Bool, true, List, length, slice_get, slice_set, nat_lt, if◌then◌else◌, Some}
use Rattle.desk_terms.specs.declared.terms.Part.{Part}
use Rattle.instrument_terms.specs.declared.marks.TheConstants.{MARKS}
use Rattle.instrument_terms.specs.Parts.{has_member}

-- a mark for each number below their count, set exactly for the members of parts
pub record AreMarks (parts : List Part) (marks : List Bool) : Type 0 where
  pub count : length marks ≡ MARKS
  pub exact : (number : ℕ) → number < MARKS → slice_get marks number ≡ Some (has_member parts number)

-- the marks with that of a number set, where it has one
abbrev pub marked : List Bool → ℕ → List Bool
marked marks number = if nat_lt number (length marks) then slice_set marks number true else marks
