-- Days moved by months, and their places, from Python's datetime.
use Rattle.std.proofs.Common.{◌≡◌, refl, map, [], ◌∷◌, pos, neg_ℤ}
use Rattle.jiff_core.specs.Calendar.{days_from_civil, day_count, days_of_years, days_of_months, weekday_number}
use Rattle.day_number.specs.Day.{civil_number, date_of, date_after, date_in_year}
use Rattle.day_number.specs.Shift.{months_later, last_of_month}

-- 2024-01-31 and one month, 2023-12-31 and two, 2024-02-29 and a year, 2024-03-31 less a month, 1901-01-15 and 298 years
january : months_later (pos 19_753) (pos 1) ≡ pos 19_782
unfolding months_later civil_number days_from_civil day_count days_of_years days_of_months date_of date_after date_in_year
january = refl

december : months_later (pos 19_722) (pos 2) ≡ pos 19_782
unfolding months_later civil_number days_from_civil day_count days_of_years days_of_months date_of date_after date_in_year
december = refl

leap_day : months_later (pos 19_782) (pos 12) ≡ pos 20_147
unfolding months_later civil_number days_from_civil day_count days_of_years days_of_months date_of date_after date_in_year
leap_day = refl

back : months_later (pos 19_813) (neg_ℤ (pos 1)) ≡ pos 19_782
unfolding months_later civil_number days_from_civil day_count days_of_years days_of_months date_of date_after date_in_year
back = refl

-- 2023-02-10 and 2100-02-01 by the last days of their months
month_ends : map last_of_month (pos 19_398 ∷ pos 47_513 ∷ []) ≡ pos 19_416 ∷ pos 47_540 ∷ []
unfolding last_of_month civil_number days_from_civil day_count days_of_years days_of_months date_of date_after date_in_year
month_ends = refl

-- 1901-01-01 was a Tuesday, 1970-01-01 a Thursday, 2024-02-25 a Sunday, from Monday as 0
weekdays : map weekday_number (neg_ℤ (pos 25_202) ∷ pos 0 ∷ pos 19_778 ∷ []) ≡ 1 ∷ 3 ∷ 6 ∷ []
unfolding weekday_number
weekdays = refl
