-- Tenors: a count of days, weeks, months or years.
use Rattle.std.specs.Prelude.{ℕ, List, [], ◌∷◌, ◌++◌, Option, Some, None, pos, unsigned_abs, ◌==◌, if◌then◌else◌}
use Rattle.std.specs.Fmt.{decimal}
use Rattle.jiff_core.specs.Calendar.{IsBetween}
use Rattle.day_number.specs.declared.tenors.Unit.{Unit as TimeUnit}
use Rattle.day_number.specs.declared.tenors.Unit.TheVariants.{Days, Weeks, Months, Years}
use Rattle.day_number.specs.declared.tenors.Tenor.{Tenor}

-- the letter of a unit (this project's texts)
abbrev pub unit_letter : TimeUnit → ℕ
unit_letter Days = 68
unit_letter Weeks = 87
unit_letter Months = 77
unit_letter Years = 89

-- the unit of a letter
abbrev pub unit_of_letter : ℕ → Option TimeUnit
unit_of_letter letter =
    if letter == 68 then Some Days
    else (if letter == 87 then Some Weeks
    else (if letter == 77 then Some Months
    else (if letter == 89 then Some Years else None)))

-- the greatest count of a unit, which is about 60 years (this project's limits)
abbrev pub unit_limit : TimeUnit → ℕ
unit_limit Days = 22_000
unit_limit Weeks = 3_100
unit_limit Months = 720
unit_limit Years = 60

-- a tenor whose count is from 1 to its unit's limit
abbrev pub IsTenor : Tenor → Type 0
IsTenor tenor = IsBetween (pos 1) (pos (unit_limit tenor.unit)) tenor.count

-- the text of a tenor: its count without leading zeros, and the letter of its unit
abbrev pub tenor_text : Tenor → List ℕ
tenor_text tenor = decimal (unsigned_abs tenor.count) ++ unit_letter tenor.unit ∷ []
