-- Rising lists of numbers.
use Rattle.std.specs.Prelude.{ℕ, ◌<◌, ◌≤◌, ◌==◌, nat_lt, Bool, false, if◌then◌else◌, List, [], ◌∷◌, length, slice_get, slice_index_or, Option, Some, None}

-- a number more, at its place, unless it is there
abbrev pub with_number : ℕ → List ℕ → List ℕ
with_number entry [] = entry ∷ []
with_number entry (first ∷ rest) =
    if first == entry
    then first ∷ rest
    else if nat_lt entry first
    then entry ∷ first ∷ rest
    else first ∷ with_number entry rest

-- a list without a number
abbrev pub without : ℕ → List ℕ → List ℕ
without number [] = []
without number (first ∷ rest) = if first == number then without number rest else first ∷ without number rest

-- P holds of each of them
abbrev pub AreAll : (ℕ → Type 0) → List ℕ → Type 0
AreAll P [] = Unit {0}
AreAll P (first ∷ rest) = P first × AreAll P rest

-- each stands so to all later ones
abbrev pub AreInOrder : (ℕ → ℕ → Type 0) → List ℕ → Type 0
AreInOrder R [] = Unit {0}
AreInOrder R (first ∷ rest) = AreAll (R first) rest × AreInOrder R rest

-- by creation, each once: each is less than all later ones
abbrev pub IsRising : List ℕ → Type 0
IsRising numbers = AreInOrder (λ one later. one < later) numbers

-- whether a number stands at a place
abbrev pub is_number_in : Option ℕ → ℕ → Bool
is_number_in None number = false
is_number_in (Some entry) number = entry == number

abbrev pub is_at : List ℕ → ℕ → ℕ → Bool
is_at numbers at number = is_number_in (slice_get numbers at) number

-- the place of a number: lesser ones stand before it, and no lesser one from there on
abbrev pub IsPlace : List ℕ → ℕ → ℕ → Type 0
IsPlace numbers number at = (at ≤ length numbers)
    × ((i : ℕ) (d : ℕ) → i < at → slice_index_or numbers i d < number)
    × ((i : ℕ) (d : ℕ) → at ≤ i → i < length numbers → number ≤ slice_index_or numbers i d)

-- what holds of the watchers that were told: they stand by creation, each a node of the graph
abbrev pub AreNoticed : List ℕ → ℕ → Type 0
AreNoticed numbers nodes = IsRising numbers × AreAll (λ one. one < nodes) numbers
