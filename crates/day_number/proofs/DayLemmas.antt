-- The numbers -25,202 to 84,005 are exactly the civil days of 1901 to 2199.
use Rattle.std.proofs.Common.{◌≡◌, ℕ, zero, suc, ◌+◌, ◌-◌, ◌<◌, ◌≤◌, cond, nat_lt, refl, sym, ap, subst, ◌∙◌, arith, w8, w16, w32, to_z, of_z, to_z-of_z, FitsSigned, ℤ, pos, ◌+ℤ◌, ◌≤ℤ◌, unsigned_abs}
use Rattle.std.proofs.lemmas.Bool.{cond_both, ltb-true, ltb-false}
use Rattle.std.proofs.lemmas.Int.{by_lt_z}
use Rattle.jiff_core.specs.declared.civil.date.Date.{Date}
use Rattle.jiff_core.specs.Calendar.{IsBetween, IsCivilDate, day_count, days_in_month, days_in_year, days_of_months}
use Rattle.jiff_core.specs.Date.{epoch_day, IsYmd}
use Rattle.jiff_core.proofs.CalendarLemmas.{days_from_civil-day_count, day_count-day_of_year, day_count-later_year, day_count-next_year, day_of_year_bound, days_of_months-zero, days_of_months_more, days_of_months_all}
use Rattle.jiff_core.proofs.DateLemmas.{epoch_day_injective}
use Rattle.jiff_core.proofs.MarchLemmas.{day_count-early}
use Rattle.jiff_core.proofs.SignedLemmas.{signed_arith, unsigned_abs-parts, one_part}
use borrow.Author.Differences.{up, down}
use Rattle.day_number.specs.Day.{IsDayNumber, IsCivil, civil_number, CivilDate, date_in_year, date_after, date_of, IsDateOf, EachDateHasANumber, EachNumberHasADate, NoNumberHasTwoDates}

-- the days before 1901 and before 2200, on jiff's count
first_day : day_count (pos 1901) 1 1 ≡ 4_346_751
first_day = day_count-early (pos 1901) 11900 1 1 refl (omega arith) (omega arith) (omega arith)

past_days : day_count (pos 2200) 1 1 ≡ 4_455_959
past_days = day_count-early (pos 2200) 12199 1 1 refl (omega arith) (omega arith) (omega arith)

-- a date of the range is one of jiff's
pub is_civil_date : (year : ℤ) (month day : ℕ) → IsCivil year month day → IsCivilDate year month day
is_civil_date year month day h =
    ((omega (arith, signed_arith), omega (arith, signed_arith)), h.1, h.2)

year_bounds : (year : ℤ) → IsBetween (pos 1901) (pos 2199) year → (4_346_751 ≤ day_count year 1 1) × (day_count year 1 1 + days_in_year year ≤ 4_455_959)
year_bounds year h =
    let low : 4_346_751 ≤ day_count year 1 1 = by_lt_z (pos 1901) year
    (λ lt. omega (arith, day_count-later_year (pos 1901) year (omega (arith, signed_arith)) lt, first_day))
    (λ le. let e : year ≡ pos 1901 = omega (arith, signed_arith) in rw e (omega (arith, first_day))) in
    omega (arith, day_count-later_year year (pos 2200) (omega (arith, signed_arith)) (omega (arith, signed_arith)), past_days)

pub civil_number-range : EachDateHasANumber
unfolding civil_number
civil_number-range year month day h =
    let years = year_bounds year h.0 in
    let civil = is_civil_date year month day h in
    omega (arith, signed_arith, days_from_civil-day_count year month day, day_count-day_of_year year month day h.2.0, day_of_year_bound year month day civil)

-- a date that has that many days before it, on jiff's count
abbrev IsCounted : ℕ → CivilDate → Type 0
IsCounted place date =
    IsCivil date.year date.month date.day × (day_count date.year date.month date.day ≡ place)

by_lt : {X : Type 0} (P : X → Type 0) (a b : ℕ) (x y : X) → (a < b → P x) → (b ≤ a → P y) → P (cond (nat_lt a b) x y)
by_lt P a b x y below above =
    cond_both (nat_lt a b) x y P (λ e. below (ltb-true a b e)) (λ e. above (ltb-false a b e))

counted : (year : ℤ) (month rest place : ℕ) → IsBetween (pos 1901) (pos 2199) year → 1 ≤ month → month ≤ 12 → rest < days_in_month year month → day_count year 1 1 + days_of_months year (month - 1) + rest ≡ place → IsCounted place (record { year = year; month = month; day = rest + 1 })
counted year month rest place years low high lt e =
    ((years, (low, high), (omega arith, omega arith)), omega (arith, day_count-day_of_year year month (rest + 1) (omega arith)))

date_in_year-is : (more : ℕ) (year : ℤ) (month rest last place : ℕ) → IsBetween (pos 1901) (pos 2199) year → 1 ≤ month → month + more ≡ last → last ≤ 12 → day_count year 1 1 + days_of_months year (month - 1) + rest ≡ place → place < day_count year 1 1 + days_of_months year last → IsCounted place (date_in_year more year month rest)
unfolding date_in_year
date_in_year-is zero year month rest last place years low e high is lt =
    let same : last ≡ month = omega arith in
    counted year month rest place years low (omega arith) (omega (arith, days_of_months_more year month low, rw same at lt)) is
date_in_year-is (suc more) year month rest last place years low e high is lt =
    by_lt (IsCounted place) rest (days_in_month year month) _ _
    (λ short. counted year month rest place years low (omega arith) short is)
    (λ long.
    let back : month + 1 - 1 ≡ month = omega arith in
    date_in_year-is more year (month + 1) (rest - days_in_month year month) last place years (omega arith) (omega arith) high
    (rw back (omega (arith, days_of_months_more year month low))) lt)

in_year : (year : ℤ) (rest place : ℕ) → IsBetween (pos 1901) (pos 2199) year → day_count year 1 1 + rest ≡ place → rest < days_in_year year → IsCounted place (date_in_year 11 year 1 rest)
in_year year rest place years is lt =
    date_in_year-is 11 year 1 rest 12 place years (omega arith) refl (omega arith)
    (let none = days_of_months-zero year in omega arith)
    (omega (arith, days_of_months_all year))

date_after-is : (more : ℕ) (year last : ℤ) (rest place : ℕ) → pos 1901 ≤ℤ year → year +ℤ pos more ≡ last → last ≤ℤ pos 2199 → day_count year 1 1 + rest ≡ place → place < day_count last 1 1 + days_in_year last → IsCounted place (date_after more year rest)
unfolding date_after
date_after-is zero year last rest place low e high is lt =
    let same : last ≡ year = omega (arith, signed_arith) in
    in_year year rest place (low, omega (arith, signed_arith)) is (omega (arith, rw same at lt))
date_after-is (suc more) year last rest place low e high is lt =
    by_lt (IsCounted place) rest (days_in_year year) _ _
    (λ short. in_year year rest place (low, omega (arith, signed_arith)) is short)
    (λ long. date_after-is more (year +ℤ pos 1) last (rest - days_in_year year) place (omega (arith, signed_arith)) (omega (arith, signed_arith)) high
    (omega (arith, day_count-next_year year (year +ℤ pos 1) (omega (arith, signed_arith)) refl)) lt)

-- the date that is counted on to has the number
pub date_of-is : EachNumberHasADate
unfolding date_of civil_number
date_of-is number h =
    let rest = unsigned_abs (number +ℤ pos 25_202) in
    let parts = unsigned_abs-parts (number +ℤ pos 25_202) in
    let part = one_part (number +ℤ pos 25_202) in
    let place : up number + 4_371_953 ≡ down number + (4_346_751 + rest) = omega (arith, signed_arith) in
    let last = day_count-next_year (pos 2199) (pos 2200) (omega (arith, signed_arith)) refl in
    let lt : 4_346_751 + rest < day_count (pos 2199) 1 1 + days_in_year (pos 2199) = omega (arith, signed_arith, past_days) in
    let here = date_after-is 298 (pos 1901) (pos 2199) rest (4_346_751 + rest) (omega (arith, signed_arith)) refl (omega (arith, signed_arith)) (omega (arith, first_day)) lt in
    let date = date_after 298 (pos 1901) rest in
    (here.0, omega (arith, signed_arith, days_from_civil-day_count date.year date.month date.day, here.1))

same_date : (one other : CivilDate) → one.year ≡ other.year → one.month ≡ other.month → one.day ≡ other.day → one ≡ other
same_date one other year month day =
    ap (λ y. let it : CivilDate = record { year = y; month = one.month; day = one.day } in it) year
    ∙ ap (λ m. let it : CivilDate = record { year = other.year; month = m; day = one.day } in it) month
    ∙ ap (λ d. let it : CivilDate = record { year = other.year; month = other.month; day = d } in it) day

-- the same date as jiff's
jiff_date : (number : ℤ) (date : CivilDate) → IsDateOf number date → Date
jiff_date number date h =
    let civil = is_civil_date date.year date.month date.day h.0 in
    record { year = date.year; month = date.month; day = date.day; year_in = civil.0; month_in = civil.1; day_in = civil.2 }

pub one_date : NoNumberHasTwoDates
unfolding civil_number jiff_date
one_date number one other h k =
    let same = epoch_day_injective (jiff_date number one h) (jiff_date number other k) (h.1 ∙ sym k.1) in
    same_date one other same.0 same.1 same.2

-- a date is that of its number
pub date_of-civil_number : (year : ℤ) (month day : ℕ) → IsCivil year month day → date_of (civil_number year month day) ≡ record { year = year; month = month; day = day }
date_of-civil_number year month day h =
    let number = civil_number year month day in
    one_date number (date_of number) (record { year = year; month = month; day = day }) (date_of-is number (civil_number-range year month day h)) (h, refl)

-- jiff's date of parts that were cast to its small types
pub cast_date : (date : Date) (year : ℤ) (month day : ℕ) → IsBetween (pos 1901) (pos 2199) year → month ≤ 12 → day ≤ 31 → IsYmd (to_z w16 (of_z w16 (to_z w32 (of_z w32 year)))) (to_z w8 month) (to_z w8 day) date → IsCivil year month day × (epoch_day date ≡ civil_number year month day)
unfolding civil_number
cast_date date year month day years months days parts =
    let wide : FitsSigned w32 year = omega (arith, signed_arith) in
    let narrow : FitsSigned w16 year = omega (arith, signed_arith) in
    let month_fits : FitsSigned w8 (pos month) = omega (arith, signed_arith) in
    let day_fits : FitsSigned w8 (pos day) = omega (arith, signed_arith) in
    let y : date.year ≡ year = parts.0 ∙ ap (λ z. to_z w16 (of_z w16 z)) (to_z-of_z wide) ∙ to_z-of_z narrow in
    let m : pos date.month ≡ pos month = parts.1 ∙ to_z-of_z month_fits in
    let d : pos date.day ≡ pos day = parts.2 ∙ to_z-of_z day_fits in
    let mm : date.month ≡ month = cc in
    let dd : date.day ≡ day = cc in
    let inside : IsCivil date.year date.month date.day = (rw y years, date.month_in, date.day_in) in
    (rw (y, mm, dd) at inside, rw (y, mm, dd) refl)

-- jiff's date of a day's number
pub numbered_date : (date : Date) (number : ℤ) → IsDayNumber number → epoch_day date ≡ number → IsDateOf number (record { year = date.year; month = date.month; day = date.day })
unfolding civil_number jiff_date
numbered_date date number h e =
    let own = date_of-is number h in
    let same = epoch_day_injective date (jiff_date number (date_of number) own) (e ∙ sym own.1) in
    let whole = same_date (record { year = date.year; month = date.month; day = date.day }) (date_of number) same.0 same.1 same.2 in
    let P : CivilDate → Type 0 = λ d. IsDateOf number d in
    subst P (sym whole) own

-- a day's number counted from jiff's first day, through its casts
pub cast_number : (number : ℤ) → IsDayNumber number → pos (unsigned_abs (to_z w32 (of_z w32 (to_z w32 (of_z w32 number) +ℤ pos 4_371_587)))) ≡ number +ℤ pos 4_371_587
cast_number number h =
    let fits : FitsSigned w32 number = omega (arith, signed_arith) in
    let sum_fits : FitsSigned w32 (number +ℤ pos 4_371_587) = omega (arith, signed_arith) in
    let parts = unsigned_abs-parts (number +ℤ pos 4_371_587) in
    let part = one_part (number +ℤ pos 4_371_587) in
    rw (to_z-of_z fits) (rw (to_z-of_z sum_fits) (omega (arith, signed_arith)))

-- a year through its casts
pub cast_year : (year : ℤ) → IsBetween (pos 1901) (pos 2199) year → to_z w32 (of_z w32 (to_z w16 (of_z w16 year))) ≡ year
cast_year year h =
    let fits : FitsSigned w16 year = omega (arith, signed_arith) in
    let wide : FitsSigned w32 year = omega (arith, signed_arith) in
    ap (λ z. to_z w32 (of_z w32 z)) (to_z-of_z fits) ∙ to_z-of_z wide
