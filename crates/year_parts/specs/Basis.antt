-- The length of the year over which days are counted.
use Rattle.std.specs.Prelude.{◌≡◌, ℕ, ◌*◌}
use Rattle.year_parts.specs.declared.bases.Basis.{Basis}
use Rattle.year_parts.specs.declared.bases.Basis.TheVariants.{D360, D365, D366, D252}
use Rattle.year_parts.specs.Parts.{parts_in_year}

-- the days of a year (Actual/360, Actual/365, the leap year of ISDA's Actual/Actual, and Business/252)
abbrev pub days_of : Basis → ℕ
days_of D360 = 360
days_of D365 = 365
days_of D366 = 366
days_of D252 = 252

-- the parts of one day over such a year (this project's unit)
abbrev pub parts_in_day : Basis → ℕ
parts_in_day D360 = 31_171
parts_in_day D365 = 30_744
parts_in_day D366 = 30_660
parts_in_day D252 = 44_530

-- the most parts of a period: those of 110,000 business days over 252, which are more days than there are (this project's range)
abbrev pub most_of_a_period : ℕ
most_of_a_period = 110_000 * parts_in_day D252

-- a year of each length has the parts of a year
abbrev pub EachYearIsWhole : Type 0
EachYearIsWhole = (basis : Basis) → days_of basis * parts_in_day basis ≡ parts_in_year
