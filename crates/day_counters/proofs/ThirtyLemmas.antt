-- Days in months of 30 and years of 360.
use Rattle.std.proofs.Common.{◌≡◌, ℕ, ◌-◌, ◌<◌, ◌≤◌, arith, ◌⊎◌, inl, inr, min, ℤ, pos, negsuc, ◌≤ℤ◌, ◌<ℤ◌}
use Rattle.jiff_core.specs.declared.civil.date.Date.{Date}
use Rattle.jiff_core.specs.Date.{epoch_day}
use Rattle.jiff_core.proofs.CalendarLemmas.{days_in_month_bounds}
use Rattle.jiff_core.proofs.DateLemmas.{cases_date, epoch_day-lt}
use Rattle.day_number.specs.Day.{IsDayNumber, IsCivil, civil_number, CivilDate, date_of}
use Rattle.day_number.proofs.DayLemmas.{is_civil_date, date_of-is}
use Rattle.jiff_core.proofs.SignedLemmas.{signed_arith}
use Rattle.day_counters.specs.CivilDate.{at_least_zero, bond_day, bond_basis_days, european_days, NeitherIsNegative}
use borrow.Author.Differences.{up, down}

pub at_least_zero-parts : (z : ℤ) → at_least_zero z ≡ up z - down z
at_least_zero-parts (pos n) = omega arith
at_least_zero-parts (negsuc n) = omega arith

pub bond_day_bounds : (first last : ℕ) → (bond_day first last ≤ last) × (min last 30 ≤ bond_day first last)
bond_day_bounds first last = grind arith

-- the first date is not after the second, in the order of year, month and day
abbrev IsInOrder : CivilDate → CivilDate → Type 0
IsInOrder a b = (a.year <ℤ b.year) ⊎ ((a.year ≡ b.year) × ((a.month < b.month) ⊎ ((a.month ≡ b.month) × (a.day ≤ b.day))))

abbrev AreNotNegative : CivilDate → CivilDate → Type 0
AreNotNegative a b = (pos 0 ≤ℤ bond_basis_days a b) × (pos 0 ≤ℤ european_days a b)

abbrev IsCivilDay : CivilDate → Type 0
IsCivilDay a = IsCivil a.year a.month a.day

in_order : (a b : CivilDate) → IsCivilDay a → IsCivilDay b → IsInOrder a b → AreNotNegative a b
in_order a b h k (inl year) =
    let long = days_in_month_bounds a.year a.month in
    let day = bond_day_bounds (min a.day 30) b.day in
    (omega (arith, signed_arith), omega (arith, signed_arith))
in_order a b h k (inr (year, inl month)) =
    let long = days_in_month_bounds a.year a.month in
    let day = bond_day_bounds (min a.day 30) b.day in
    (omega (arith, signed_arith), omega (arith, signed_arith))
in_order a b h k (inr (year, inr (month, days))) =
    let day = bond_day_bounds (min a.day 30) b.day in
    (omega (arith, signed_arith), omega (arith, signed_arith))

-- the day's date as jiff has it
abbrev jiff_date : (day : ℤ) → IsDayNumber day → Date
jiff_date day h =
    let date = date_of day in
    let civil = is_civil_date date.year date.month date.day (date_of-is day h).0 in
    record { year = date.year; month = date.month; day = date.day; year_in = civil.0; month_in = civil.1; day_in = civil.2 }

jiff_number : (day : ℤ) (h : IsDayNumber day) → epoch_day (jiff_date day h) ≡ day
unfolding civil_number
jiff_number day h = (date_of-is day h).1

pub neither_is_negative : NeitherIsNegative
neither_is_negative from to h k le =
    let a = jiff_date from h in
    let b = jiff_date to k in
    in_order (date_of from) (date_of to) (date_of-is from h).0 (date_of-is to k).0 (elim (cases_date a b) [
      | inl (inl year) ↦ inl year
      | inl (inr (year, inl month)) ↦ inr (year, inl month)
      | inl (inr (year, inr (month, day))) ↦ inr (year, inr (month, omega arith))
      | inr (inl late) ↦ absurd (omega (arith, signed_arith, epoch_day-lt b a late, jiff_number from h, jiff_number to k))
      | inr (inr same) ↦ inr (same.0, inr (same.1, omega (arith, same.2)))
    ])
