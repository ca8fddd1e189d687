-- The days of a month lie from its first to its last day, with none of another month between.
use Rattle.std.proofs.Common.{◌≡◌, refl, ℕ, ◌+◌, ◌<◌, ◌≤◌, sym, ap, ◌∙◌, arith, ◌<ℤ◌, ◌≤ℤ◌, ℤ, pos, ◌+ℤ◌, ◌-ℤ◌, unsigned_abs}
use Rattle.std.proofs.lemmas.Int.{ints, by_lt_z}
use Rattle.std.proofs.lemmas.Bool.Decides.{Decides-int_eq}
use Rattle.jiff_core.specs.Calendar.{day_count, days_in_month}
use Rattle.jiff_core.proofs.CalendarLemmas.{days_from_civil-day_count, days_in_month_bounds, day_count-day, day_count-lt_year, day_count-lt_month}
use Rattle.jiff_core.proofs.SignedLemmas.{signed_arith, int_div_euclid-parts, int_rem_euclid-parts}
use Rattle.day_number.specs.Day.{IsDayNumber, IsCivil, CivilDate, civil_number, date_of}
use Rattle.day_number.specs.Shift.{month_number, date_months_later, months_later, last_of_month}
use Rattle.day_number.proofs.DayLemmas.{is_civil_date, civil_number-range, date_of-is, date_of-civil_number}
use Rattle.day_shift.specs.Month.{IsInMonth, IsMonthInRange, OneMonthIsYearAndMonth}

-- dates of one month are as far apart as their days
civil_number-day : (year : ℤ) (month one other : ℕ) → 1 ≤ one → 1 ≤ other → civil_number year month one +ℤ pos other ≡ civil_number year month other +ℤ pos one
unfolding civil_number
civil_number-day year month one other h k =
    omega (arith, signed_arith, days_from_civil-day_count year month one, days_from_civil-day_count year month other, day_count-day year month one other h k)

-- the last day of the month
last-is : (day : ℤ) → last_of_month day ≡ civil_number (date_of day).year (date_of day).month (days_in_month (date_of day).year (date_of day).month)
unfolding last_of_month
last-is day = refl

last-civil : (day : ℤ) → IsDayNumber day → IsCivil (date_of day).year (date_of day).month (days_in_month (date_of day).year (date_of day).month)
last-civil day h =
    let civil = (date_of-is day h).0 in
    (civil.0, civil.1, (omega (arith, days_in_month_bounds (date_of day).year (date_of day).month), omega arith))

pub last-in_range : (day : ℤ) → IsDayNumber day → IsDayNumber (last_of_month day)
last-in_range day h = rw (last-is day) (civil_number-range _ _ _ (last-civil day h))

last-date : (day : ℤ) → IsDayNumber day → date_of (last_of_month day) ≡ record { year = (date_of day).year; month = (date_of day).month; day = days_in_month (date_of day).year (date_of day).month }
last-date day h = ap date_of (last-is day) ∙ date_of-civil_number _ _ _ (last-civil day h)

-- a day is not after the last of its month
pub last-after : (day : ℤ) → IsDayNumber day → day ≤ℤ last_of_month day
last-after day h =
    let date = date_of day in
    let own = date_of-is day h in
    let last = days_in_month date.year date.month in
    let apart = civil_number-day date.year date.month date.day last own.0.2.0 (last-civil day h).2.0 in
    omega (arith, signed_arith, apart, own.1, own.0.2.1, last-is day)

-- days of one month have one last day
pub last-same : (day other : ℤ) → IsInMonth day other → last_of_month other ≡ last_of_month day
last-same day other h =
    last-is other
    ∙ ap (λ year. civil_number year (date_of other).month (days_in_month year (date_of other).month)) h.0
    ∙ ap (λ month. civil_number (date_of day).year month (days_in_month (date_of day).year month)) h.1
    ∙ sym (last-is day)

pub same-last : (day other : ℤ) → IsDayNumber day → IsDayNumber other → last_of_month day ≡ last_of_month other → IsInMonth day other
same-last day other h k e =
    let whole = sym (last-date other k) ∙ ap date_of (sym e) ∙ last-date day h in
    (ap (λ (d : CivilDate). d.year) whole, ap (λ (d : CivilDate). d.month) whole)

-- what lies between a day and the last of its month is of that month
pub month-between : (day x : ℤ) → IsDayNumber day → day ≤ℤ x → x ≤ℤ last_of_month day → IsInMonth day x
month-between day x h low high =
    let date = date_of day in
    let own = date_of-is day h in
    let last = days_in_month date.year date.month in
    let place = date.day + unsigned_abs (x -ℤ day) in
    let step : pos (unsigned_abs (x -ℤ day)) ≡ x -ℤ day = omega (arith, ints) in
    let to_last = civil_number-day date.year date.month date.day last own.0.2.0 (last-civil day h).2.0 in
    let to_place = civil_number-day date.year date.month date.day place own.0.2.0 (omega (arith, own.0.2.0)) in
    let within : place ≤ last = omega (arith, signed_arith, step, to_last, own.1, last-is day) in
    let is : civil_number date.year date.month place ≡ x = omega (arith, signed_arith, step, to_place, own.1) in
    let whole = ap date_of (sym is) ∙ date_of-civil_number date.year date.month place (own.0.0, own.0.1, (omega (arith, own.0.2.0), within)) in
    (ap (λ (d : CivilDate). d.year) whole, ap (λ (d : CivilDate). d.month) whole)

-- the date some months later is one of the range where its month is
later-civil : (day n : ℤ) → IsDayNumber day → IsMonthInRange day n → IsCivil (date_months_later (date_of day) n).year (date_months_later (date_of day) n).month (date_months_later (date_of day) n).day
later-civil day n h years =
    let date = date_of day in
    let own = (date_of-is day h).0 in
    let parts = int_rem_euclid-parts (month_number date +ℤ n) 12 (omega arith) in
    let later = date_months_later date n in
    let bounds = days_in_month_bounds later.year later.month in
    (years, (omega arith, omega (arith, signed_arith, parts.1, parts.2)), (omega (arith, own.2.0, bounds), omega arith))

-- of two days of one month the later has the greater place
pub place-order : (day later : ℤ) → IsDayNumber day → IsDayNumber later → IsInMonth day later → day ≤ℤ later → (date_of day).day ≤ (date_of later).day
place-order day later h k is le =
    let date = date_of day in
    let one = date_of-is day h in
    let other = date_of-is later k in
    let same : civil_number date.year date.month (date_of later).day ≡ later =
    ap (λ year. civil_number year date.month (date_of later).day) (sym is.0)
    ∙ ap (λ month. civil_number (date_of later).year month (date_of later).day) (sym is.1) ∙ other.1 in
    let apart = civil_number-day date.year date.month date.day (date_of later).day one.0.2.0 other.0.2.0 in
    omega (arith, signed_arith, apart, same, one.1)

-- the month of a day, counted from January of the year 0
abbrev pub month_of : ℤ → ℤ
month_of day = month_number (date_of day)

-- a day of a later month is later
pub month-order : (day later : ℤ) → IsDayNumber day → IsDayNumber later → month_of day <ℤ month_of later → day <ℤ later
unfolding civil_number
month-order day later h k lt =
    let a = date_of day in
    let b = date_of later in
    let one = date_of-is day h in
    let other = date_of-is later k in
    let civil = is_civil_date a.year a.month a.day one.0 in
    let first = days_from_civil-day_count a.year a.month a.day in
    let second = days_from_civil-day_count b.year b.month b.day in
    let months_one = one.0.1 in
    let months_other = other.0.1 in
    by_lt_z a.year b.year
    (λ earlier. omega (arith, signed_arith, first, second, one.1, other.1, day_count-lt_year a.year a.month a.day b.year b.month b.day civil other.0.2.0 earlier))
    (λ ge.
    let same : b.year ≡ a.year = omega (arith, signed_arith, months_one.0, months_one.1, months_other.0, months_other.1) in
    let month : a.month < b.month = omega (arith, signed_arith, months_one.0, months_one.1, months_other.0, months_other.1, same) in
    let counted = day_count-lt_month a.year a.month a.day b.month b.day civil other.0.2.0 month in
    let there : day_count b.year b.month b.day ≡ day_count a.year b.month b.day = ap (λ y. day_count y b.month b.day) same in
    omega (arith, signed_arith, first, second, one.1, other.1, counted, there))

-- the month some months later
pub months_later-month : (day n : ℤ) → IsDayNumber day → IsMonthInRange day n → month_of (months_later day n) ≡ month_of day +ℤ n
unfolding months_later
months_later-month day n h years =
    let date = date_of day in
    let later = date_months_later date n in
    let div = int_div_euclid-parts (month_number date +ℤ n) 12 (omega arith) in
    let rem = int_rem_euclid-parts (month_number date +ℤ n) 12 (omega arith) in
    let is = date_of-civil_number later.year later.month later.day (later-civil day n h years) in
    ap month_number is ∙ omega (arith, signed_arith, div, rem)

pub one_month_is_year_and_month : OneMonthIsYearAndMonth
one_month_is_year_and_month day other h k = (
  λ e. same-last day other h k ((Decides-int_eq (last_of_month day) (last_of_month other)).0 e),
  λ is. (Decides-int_eq (last_of_month day) (last_of_month other)).1 (sym (last-same day other is)),
)

-- the day some months later is one of the range where its month is
pub months_later-in_range : (day n : ℤ) → IsDayNumber day → IsMonthInRange day n → IsDayNumber (months_later day n)
unfolding months_later
months_later-in_range day n h years =
    let later = date_months_later (date_of day) n in
    civil_number-range later.year later.month later.day (later-civil day n h years)
