-- Months one after another, and the days in them.
use Rattle.std.proofs.Common.{◌≡◌, ℕ, zero, suc, ◌+◌, ◌*◌, ◌≤◌, inl, inr, refl, sym, ap, ◌∙◌, arith, ℤ, pos, neg_ℤ, ◌+ℤ◌, ◌≤ℤ◌, unsigned_abs}
use Rattle.std.proofs.lemmas.Bool.{cases_order}
use Rattle.std.specs.Int.{int_div_euclid, int_rem_euclid}
use Rattle.jiff_core.specs.Calendar.{days_from_civil, days_in_month}
use Rattle.jiff_core.proofs.SignedLemmas.{signed_arith, int_div_euclid-parts, int_rem_euclid-parts}
use Rattle.jiff_core.proofs.CalendarLemmas.{days_in_month_bounds}
use Rattle.jiff_core.proofs.DateLemmas.{days_from_civil-day, days_from_civil-next_month, days_from_civil-next_year}

-- the year, the month, the first day and the length of a month that is counted from January of the year 0
abbrev pub year_of : ℤ → ℤ
year_of m = int_div_euclid m (pos 12)

abbrev pub month_of : ℤ → ℕ
month_of m = unsigned_abs (int_rem_euclid m (pos 12)) + 1

abbrev pub first_of : ℤ → ℤ
first_of m = days_from_civil (year_of m) (month_of m) 1

abbrev pub length_of : ℤ → ℕ
length_of m = days_in_month (year_of m) (month_of m)

pub lengths : (m : ℤ) → (28 ≤ length_of m) × (length_of m ≤ 31)
lengths m =
    let long = days_in_month_bounds (year_of m) (month_of m) in
    (omega arith, omega arith)

-- a day of a month
pub placed : (m : ℤ) (day : ℕ) → 1 ≤ day → days_from_civil (year_of m) (month_of m) day +ℤ pos 1 ≡ first_of m +ℤ pos day
placed m day h = days_from_civil-day (year_of m) (month_of m) day 1 h (omega arith)

next_first : (m : ℤ) → neg_ℤ (pos 100_000) ≤ℤ m → first_of (m +ℤ pos 1) ≡ first_of m +ℤ pos (length_of m)
next_first m low =
    let div = int_div_euclid-parts m 12 (omega arith) in
    let rem = int_rem_euclid-parts m 12 (omega arith) in
    let div₂ = int_div_euclid-parts (m +ℤ pos 1) 12 (omega arith) in
    let rem₂ = int_rem_euclid-parts (m +ℤ pos 1) 12 (omega arith) in
    let long = lengths m in
    elim (cases_order (month_of m) 12) [
      | inr (inl lt) ↦
          let year : year_of (m +ℤ pos 1) ≡ year_of m = omega (arith, signed_arith) in
          let month : month_of (m +ℤ pos 1) ≡ month_of m + 1 = omega (arith, signed_arith) in
          let same : first_of (m +ℤ pos 1) ≡ days_from_civil (year_of m) (month_of m + 1) 1 = ap (λ y. days_from_civil y (month_of (m +ℤ pos 1)) 1) year ∙ ap (λ k. days_from_civil (year_of m) k 1) month in
          same ∙ days_from_civil-next_month (year_of m) (month_of m) (length_of m) (omega arith) refl
          ∙ placed m (length_of m) (omega arith)
      | inl e ↦
          let year : year_of (m +ℤ pos 1) ≡ year_of m +ℤ pos 1 = omega (arith, signed_arith) in
          let month : month_of (m +ℤ pos 1) ≡ 1 = omega (arith, signed_arith) in
          let same : first_of (m +ℤ pos 1) ≡ days_from_civil (year_of m +ℤ pos 1) 1 1 = ap (λ y. days_from_civil y (month_of (m +ℤ pos 1)) 1) year ∙ ap (λ k. days_from_civil (year_of m +ℤ pos 1) k 1) month in
          let december : days_from_civil (year_of m) 12 31 ≡ days_from_civil (year_of m) (month_of m) 31 = ap (λ k. days_from_civil (year_of m) k 31) (sym e) in
          let length : length_of m ≡ 31 = ap (λ k. days_in_month (year_of m) k) e in
          same ∙ days_from_civil-next_year (year_of m) (year_of m +ℤ pos 1) (omega (arith, signed_arith)) refl
          ∙ ap (λ z. z +ℤ pos 1) december ∙ placed m 31 (omega arith) ∙ ap (λ n. first_of m +ℤ pos n) (sym length)
      | inr (inr gt) ↦ absurd (omega (arith, signed_arith))
    ]

-- a later month begins after this month's days and 28 for each month between
pub gap : (n : ℕ) (m later : ℤ) → neg_ℤ (pos 100_000) ≤ℤ m → later ≡ m +ℤ pos (n + 1) → (first_of m +ℤ pos (length_of m + 28 * n)) ≤ℤ first_of later
gap zero m later low e =
    let one : later ≡ m +ℤ pos 1 = omega (arith, signed_arith) in
    let next = ap first_of one ∙ next_first m low in
    omega (arith, signed_arith, next)
gap (suc n) m later low e =
    let before : ℤ = m +ℤ pos (n + 1) in
    let one : later ≡ before +ℤ pos 1 = omega (arith, signed_arith) in
    let next = ap first_of one ∙ next_first before (omega (arith, signed_arith)) in
    let long = lengths before in
    omega (arith, signed_arith, next, gap n m before low refl, long.0)

-- a later month begins no more than 31 days later for each month between
pub gap_most : (n : ℕ) (m later : ℤ) → neg_ℤ (pos 100_000) ≤ℤ m → later ≡ m +ℤ pos n → first_of later ≤ℤ (first_of m +ℤ pos (31 * n))
gap_most zero m later low e =
    let same : later ≡ m = omega (arith, signed_arith) in
    let first = ap first_of same in
    omega (arith, signed_arith, first)
gap_most (suc n) m later low e =
    let before : ℤ = m +ℤ pos n in
    let one : later ≡ before +ℤ pos 1 = omega (arith, signed_arith) in
    let next = ap first_of one ∙ next_first before (omega (arith, signed_arith)) in
    let long = lengths before in
    omega (arith, signed_arith, next, gap_most n m before low refl, long.1)
