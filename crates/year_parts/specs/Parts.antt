-- Year fractions as whole numbers of parts.
use Rattle.std.specs.Prelude.{ℕ, ◌*◌, ◌^◌, ℤ, pos, ◌≤ℤ◌}

-- the parts of a year (this project's unit: 360 * 31,171 = 365 * 30,744 = 366 * 30,660 = 252 * 44,530)
abbrev pub parts_in_year : ℕ
parts_in_year = 11_221_560

-- a year fraction in parts, from 0 to 2 * 10^12 (this project's range: two terms of 10^12 fit)
abbrev pub IsYearParts : ℤ → Type 0
IsYearParts parts = (pos 0 ≤ℤ parts) × (parts ≤ℤ pos (2 * 10 ^ 12))
