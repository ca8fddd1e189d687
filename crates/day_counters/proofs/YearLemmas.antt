-- Actual/Actual by whole years: how the parts up to a day follow from its year.
use Rattle.std.proofs.Common.{◌≡◌, ℕ, zero, suc, ◌+◌, ◌*◌, ◌<◌, ◌≤◌, Bool, true, false, cond, refl, ap, ◌∙◌, inl, inr, arith, ℤ, pos, neg_ℤ, ◌+ℤ◌, ◌-ℤ◌, ◌*ℤ◌, ◌≤ℤ◌, ◌<ℤ◌, unsigned_abs}
use Rattle.std.proofs.lemmas.Bool.{cases_order}
use Rattle.jiff_core.specs.Calendar.{IsBetween, is_leap_year, day_count, days_in_year, days_from_civil, days_of_years, days_of_months}
use Rattle.jiff_core.proofs.CalendarLemmas.{days_from_civil-day_count, day_count-next_year, day_count-year_is, days_in_year_bounds, days_in_month_bounds}
use Rattle.jiff_core.proofs.SignedLemmas.{signed_arith, unsigned_abs-parts, one_part}
use Rattle.day_number.specs.Day.{IsDayNumber, civil_number, date_of}
use Rattle.day_number.proofs.DayLemmas.{is_civil_date, civil_number-range, date_of-is}
use Rattle.year_parts.specs.declared.bases.Basis.TheVariants.{D365, D366}
use Rattle.year_parts.specs.Basis.{parts_in_day}
use Rattle.year_parts.specs.Parts.{parts_in_year}
use Rattle.day_counters.specs.Day.{basis_of_year, act_act}
use Rattle.day_counters.specs.CivilDate.{at_least_zero}
use Rattle.day_counters.proofs.ThirtyLemmas.{at_least_zero-parts}

-- a day that lies among the days of a year is of that year
pub year_is : (year day : ℤ) → IsBetween (pos 1901) (pos 2199) year → IsDayNumber day → civil_number year 1 1 ≤ℤ day → day <ℤ (civil_number year 1 1 +ℤ pos (days_in_year year)) → (date_of day).year ≡ year
unfolding civil_number
year_is year day years h low high =
    let it = date_of-is day h in
    let date = date_of day in
    let own = days_from_civil-day_count date.year date.month date.day in
    let first = days_from_civil-day_count year 1 1 in
    day_count-year_is year date.year date.month date.day (omega (arith, signed_arith), omega (arith, signed_arith)) (is_civil_date date.year date.month date.day it.0)
    (omega (arith, signed_arith, it.1)) (omega (arith, signed_arith, it.1))

-- the next year begins after the days of this one
pub next_year : (year next : ℤ) → pos 1901 ≤ℤ year → next ≡ year +ℤ pos 1 → civil_number next 1 1 ≡ civil_number year 1 1 +ℤ pos (days_in_year year)
unfolding civil_number
next_year year next low e =
    omega (arith, signed_arith, days_from_civil-day_count year 1 1, days_from_civil-day_count next 1 1, day_count-next_year year next (omega (arith, signed_arith)) e)

first_new_year : civil_number (pos 1901) 1 1 ≡ neg_ℤ (pos 25_202)
unfolding civil_number days_from_civil day_count days_of_years days_of_months
first_new_year = refl

last_new_year : civil_number (pos 2199) 1 1 ≡ pos 83_641
unfolding civil_number days_from_civil day_count days_of_years days_of_months
last_new_year = refl

-- the parts of one day of a year
abbrev pub weight : ℤ → ℕ
weight year = parts_in_day (basis_of_year year)

whole_by : (leap : Bool) → cond leap 366 365 * parts_in_day (cond leap D366 D365) ≡ parts_in_year
whole_by true = refl
whole_by false = refl

-- the days of a year have the parts of a year
pub whole_year : (year : ℤ) → days_in_year year * weight year ≡ parts_in_year
whole_year year = whole_by (is_leap_year year)

-- where the nth day of the range lies: so many whole years after 1901, and so many days into the next
pub record IsPlaced (n year rest : ℕ) : Type 0 where
  pub range : year ≤ 298
  pub begins : civil_number (pos (1901 + year)) 1 1 +ℤ pos rest ≡ neg_ℤ (pos 25_202) +ℤ pos n
  pub within : rest < days_in_year (pos (1901 + year))
  pub parts : act_act (neg_ℤ (pos 25_202)) n ≡ year * parts_in_year + rest * weight (pos (1901 + year))

-- the day after it, where that lies in the same year
placed_within : (n year rest : ℕ) → suc n ≤ 109_207 → IsPlaced n year rest → suc rest < days_in_year (pos (1901 + year)) → IsPlaced (suc n) year (suc rest)
unfolding act_act
placed_within n year rest h at lt =
    let day = neg_ℤ (pos 25_202) +ℤ pos n in
    let same = year_is (pos (1901 + year)) day (omega (arith, signed_arith, at.range), omega (arith, signed_arith, at.range)) (omega (arith, signed_arith), omega (arith, signed_arith))
    (omega (arith, signed_arith, at.begins)) (omega (arith, signed_arith, at.begins, at.within)) in
    record {
      range = at.range;
      begins = omega (arith, signed_arith, at.begins);
      within = lt;
      parts = rw same (omega (arith, at.parts));
    }

-- a whole year's last day, and the days before it
whole_by_rest : (year : ℤ) (rest : ℕ) → suc rest ≡ days_in_year year → rest * weight year + weight year ≡ parts_in_year
whole_by_rest year rest full =
    let e : rest * weight year + weight year ≡ suc rest * weight year = omega arith in
    e ∙ ap (λ n. n * weight year) full ∙ whole_year year

-- a year that ends within the range is not the last
not_past : (n year rest : ℕ) → suc n ≤ 109_207 → IsPlaced n year rest → suc rest ≡ days_in_year (pos (1901 + year)) → suc year ≤ 298
not_past n year rest h at full =
    elim (cases_order year 298) [
      | inr (inl lt) ↦ omega arith
      | inl same ↦ absurd (let begins = rw (same, last_new_year) at at.begins in let long = rw same at full in omega (arith, signed_arith))
      | inr (inr gt) ↦ absurd (omega (arith, at.range))
    ]

-- the day after it, where that begins a year
placed_after : (n year rest : ℕ) → suc n ≤ 109_207 → IsPlaced n year rest → days_in_year (pos (1901 + year)) ≤ suc rest → IsPlaced (suc n) (suc year) 0
unfolding act_act
placed_after n year rest h at le =
    let here = pos (1901 + year) in
    let day = neg_ℤ (pos 25_202) +ℤ pos n in
    let same = year_is here day (omega (arith, signed_arith, at.range), omega (arith, signed_arith, at.range)) (omega (arith, signed_arith), omega (arith, signed_arith))
    (omega (arith, signed_arith, at.begins)) (omega (arith, signed_arith, at.begins, at.within)) in
    let next = next_year here (pos (1901 + suc year)) (omega (arith, signed_arith)) (omega (arith, signed_arith)) in
    let full : suc rest ≡ days_in_year here = omega (arith, at.within) in
    record {
      range = not_past n year rest h at full;
      begins = omega (arith, signed_arith, at.begins, next);
      within = omega (arith, days_in_year_bounds (pos (1901 + suc year)));
      parts = rw same (let whole = whole_by_rest here rest full in omega (arith, at.parts));
    }

placed_next : (n : ℕ) → suc n ≤ 109_207 → ((year : ℕ) × ((rest : ℕ) × IsPlaced n year rest)) → (year : ℕ) × ((rest : ℕ) × IsPlaced (suc n) year rest)
placed_next n h (year, (rest, at)) =
    elim (cases_order (suc rest) (days_in_year (pos (1901 + year)))) [
      | inr (inl lt) ↦ (year, (suc rest, placed_within n year rest h at lt))
      | inl same ↦ (suc year, (0, placed_after n year rest h at (omega arith)))
      | inr (inr gt) ↦ (suc year, (0, placed_after n year rest h at (omega arith)))
    ]

-- every day of the range has a place
pub placed : (n : ℕ) → n ≤ 109_207 → (year : ℕ) × ((rest : ℕ) × IsPlaced n year rest)
unfolding act_act
placed zero h =
    (0, (0, record { range = omega arith; begins = rw first_new_year refl; within = omega arith; parts = refl }))
placed (suc n) h = placed_next n h (placed n (omega arith))

-- 1 January of a year of the range, and how far a day lies from it
pub new_year_bounds : (year : ℤ) → IsBetween (pos 1901) (pos 2199) year → IsDayNumber (civil_number year 1 1)
new_year_bounds year h = civil_number-range year 1 1 (h, (omega arith, omega arith), (omega arith, omega (arith, days_in_month_bounds year 1)))

-- the parts up to a day by its year
pub record IsCounted (day : ℤ) (count : ℕ) : Type 0 where
  pub begins : civil_number (date_of day).year 1 1 ≤ℤ day
  pub within : day <ℤ (civil_number (date_of day).year 1 1 +ℤ pos 366)
  pub years : (pos 1901 ≤ℤ (date_of day).year) × ((date_of day).year ≤ℤ pos 2199)
  pub parts : pos count ≡ ((date_of day).year -ℤ pos 1901) *ℤ pos parts_in_year +ℤ (day -ℤ civil_number (date_of day).year 1 1) *ℤ pos (weight (date_of day).year)

counted_at : (day : ℤ) (n : ℕ) → IsDayNumber day → neg_ℤ (pos 25_202) +ℤ pos n ≡ day → ((year : ℕ) × ((rest : ℕ) × IsPlaced n year rest)) → IsCounted day (act_act (neg_ℤ (pos 25_202)) n)
counted_at day n h e (year, (rest, at)) =
    let here = pos (1901 + year) in
    let range : IsBetween (pos 1901) (pos 2199) here = (omega (arith, signed_arith, at.range), omega (arith, signed_arith, at.range)) in
    let gap : day -ℤ civil_number here 1 1 ≡ pos rest = omega (arith, signed_arith, at.begins) in
    let long = days_in_year_bounds here in
    let same = year_is here day range h (omega (arith, signed_arith, at.begins)) (omega (arith, signed_arith, at.begins, at.within)) in
    record {
      begins = rw same (omega (arith, signed_arith, at.begins));
      within = rw same (omega (arith, signed_arith, at.begins, at.within));
      years = rw same range;
      parts = rw (same, gap, at.parts) (omega (arith, signed_arith));
    }

pub counted : (day : ℤ) → IsDayNumber day → IsCounted day (act_act (neg_ℤ (pos 25_202)) (unsigned_abs (day +ℤ pos 25_202)))
counted day h =
    let n = unsigned_abs (day +ℤ pos 25_202) in
    let parts = unsigned_abs-parts (day +ℤ pos 25_202) in
    let part = one_part (day +ℤ pos 25_202) in
    counted_at day n h (omega (arith, signed_arith)) (placed n (omega (arith, signed_arith)))

-- the parts of days are those of the first of them and of the others
act_act-add : (from : ℤ) (m n : ℕ) → act_act from (m + n) ≡ act_act from m + act_act (from +ℤ pos m) n
unfolding act_act
act_act-add from m zero = let same : m + zero ≡ m = omega arith in rw same (omega arith)
act_act-add from m (suc n) =
    let next : m + suc n ≡ suc (m + n) = omega arith in
    let day : from +ℤ pos m +ℤ pos n ≡ from +ℤ pos (m + n) = omega (arith, signed_arith) in
    rw (next, day) (omega (arith, act_act-add from m n))

weight_by : (leap : Bool) → parts_in_day (cond leap D366 D365) ≤ parts_in_day D365
weight_by true = omega arith
weight_by false = omega arith

pub weight_bound : (year : ℤ) → weight year ≤ parts_in_day D365
weight_bound year = weight_by (is_leap_year year)

pub act_act_bound : (from : ℤ) (n : ℕ) → act_act from n ≤ n * parts_in_day D365
unfolding act_act
act_act_bound from zero = omega arith
act_act_bound from (suc n) =
    omega (arith, act_act_bound from n, weight_bound (date_of (from +ℤ pos n)).year)

-- the parts from one day to another by those from the first day of the range
pub between : (from to : ℤ) → IsDayNumber from → IsDayNumber to → from ≤ℤ to → act_act (neg_ℤ (pos 25_202)) (unsigned_abs (to +ℤ pos 25_202)) ≡ act_act (neg_ℤ (pos 25_202)) (unsigned_abs (from +ℤ pos 25_202)) + act_act from (at_least_zero (to -ℤ from))
between from to h k le =
    let first = neg_ℤ (pos 25_202) in
    let m = unsigned_abs (from +ℤ pos 25_202) in
    let n = at_least_zero (to -ℤ from) in
    let parts = unsigned_abs-parts (from +ℤ pos 25_202) in
    let part = one_part (from +ℤ pos 25_202) in
    let to_parts = unsigned_abs-parts (to +ℤ pos 25_202) in
    let to_part = one_part (to +ℤ pos 25_202) in
    let gap = at_least_zero-parts (to -ℤ from) in
    let end : m + n ≡ unsigned_abs (to +ℤ pos 25_202) = omega (arith, signed_arith) in
    let start : first +ℤ pos m ≡ from = omega (arith, signed_arith) in
    rw (end, start) at (act_act-add first m n)
