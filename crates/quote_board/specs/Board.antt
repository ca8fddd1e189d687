-- The board of quotes.
use Rattle.std.specs.Prelude.{◌≡◌, ◌==◌, ℕ, ℤ, Bool, List, Option, None, if◌then◌else◌, slice_index_or}
use Rattle.std.specs.Option.{option_eq}
use Rattle.std.specs.Ordering.{int_eq}

-- a board by number
abbrev pub Board : Type 0
Board = List (Option (Option ℤ))

-- what stands at a number: nothing, or a quote with its value or with none
abbrev pub entry : Board → ℕ → Option (Option ℤ)
entry board x = slice_index_or board x None

abbrev pub is_equal : Option (Option ℤ) → Option (Option ℤ) → Bool
is_equal a b = option_eq (option_eq int_eq) a b

-- this stands at q in the new board, and all else is as in the old one
abbrev pub IsPut : ℕ → Option (Option ℤ) → Board → Board → Type 0
IsPut q put old new = (x : ℕ) → entry new x ≡ (if x == q then put else entry old x)

-- the same stands at each number
abbrev pub IsSame : Board → Board → Type 0
IsSame old new = (x : ℕ) → entry new x ≡ entry old x
