-- What each step gains, by what the steps show for one ask (this project's profile).
use Rattle.std.specs.Prelude.{ℕ, ℤ, pos, ◌+ℤ◌, ◌-ℤ◌, List, [], ◌∷◌, ◌++◌, Option, Some, None}
use Rattle.tool_runs.specs.declared.told.Told.{Told}
use Rattle.tool_runs.specs.declared.told.Told.TheVariants.{Nothing, Value, Gain}

-- the latter of two, where it is money
abbrev pub latter : Option ℤ → Option ℤ → Option ℤ
latter before None = before
latter before (Some amount) = Some amount

-- the first money of what steps show, and the last
unfoldable pub first_shown : List (Option ℤ) → Option ℤ
first_shown [] = None
first_shown (shown ∷ others) = latter (first_shown others) shown

unfoldable pub last_shown : List (Option ℤ) → Option ℤ
last_shown [] = None
last_shown (shown ∷ others) = latter shown (last_shown others)

-- WHAT A STEP TELLS, over the last money that a step before it showed
abbrev pub told : Option ℤ → Option ℤ → Told
told last None = Nothing
told None (Some amount) = Value amount
told (Some before) (Some amount) = Gain (amount -ℤ before)

-- what steps tell, each by its name, behind some that showed this
unfoldable pub told_by : List (Option ℤ) → List (Option ℕ × Option ℤ) → List (Option ℕ × Told)
told_by before [] = []
told_by before (entry ∷ entries) =
    (entry.0, told (last_shown before) entry.1) ∷ told_by (before ++ entry.1 ∷ []) entries

-- what steps show
abbrev pub amounts : List (Option ℕ × Option ℤ) → List (Option ℤ)
amounts [] = []
amounts (entry ∷ entries) = entry.1 ∷ amounts entries

abbrev pub difference : Option ℤ → Option ℤ → Option ℤ
difference first None = None
difference None (Some last) = None
difference (Some first) (Some last) = Some (last -ℤ first)

-- THE TOTAL: the last money less the first
abbrev pub total_of : List (Option ℤ) → Option ℤ
total_of shown = difference (first_shown shown) (last_shown shown)

-- what a step gains
abbrev pub gain_in : Told → ℤ
gain_in Nothing = pos 0
gain_in (Value amount) = pos 0
gain_in (Gain amount) = amount

-- the sum of the gains
abbrev pub gains_in : List (Option ℕ × Told) → ℤ
gains_in [] = pos 0
gains_in (entry ∷ entries) = gain_in entry.1 +ℤ gains_in entries
