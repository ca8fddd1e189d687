-- Easter Sunday of the Gregorian calendar, by whole-number division and remainder: the rule without exceptions that Nature printed in 1876.
use Rattle.std.specs.Prelude.{ℕ, ◌+◌, ◌-◌, ◌*◌, ◌/◌, ◌%◌, ℤ, unsigned_abs}
use Rattle.day_number.specs.Day.{civil_number}

-- the days from 21 March to the full moon, the rule's h
unfoldable pub moon_days : ℕ → ℕ
moon_days year =
    let a = year % 19 in
    let b = year / 100 in
    let d = b / 4 in
    let f = (b + 8) / 25 in
    let g = (b - f + 1) / 3 in
    (19 * a + b - d - g + 15) % 30

-- the days from the day after the full moon to a Sunday, the rule's l
unfoldable pub sunday_days : ℕ → ℕ
sunday_days year =
    let e = year / 100 % 4 in
    let i = year % 100 / 4 in
    let k = year % 100 % 4 in
    (32 + 2 * e + 2 * i - moon_days year - k) % 7

-- 1 in the few years in which Easter is a week earlier than that, the rule's m
unfoldable pub early_weeks : ℕ → ℕ
early_weeks year = (year % 19 + 11 * moon_days year + 22 * sunday_days year) / 451

-- the place of Easter Sunday among 31 places for each month, from 0 on
unfoldable pub easter_place : ℕ → ℕ
easter_place year = moon_days year + sunday_days year - 7 * early_weeks year + 114

-- a month and a day of it
pub record MonthDay : Type 0 where
  pub month : ℕ
  pub day : ℕ

-- Easter Sunday of a year
abbrev pub easter : ℕ → MonthDay
easter year = record { month = easter_place year / 31; day = easter_place year % 31 + 1 }

-- the number of Easter Sunday of a year
unfoldable pub easter_day : ℤ → ℤ
easter_day year =
    let sunday = easter (unsigned_abs year) in civil_number year sunday.month sunday.day
