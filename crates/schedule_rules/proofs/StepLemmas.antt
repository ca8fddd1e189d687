-- Steps far from the range, and steps that follow one another.
use Rattle.std.proofs.Common.{◌≡◌, ◌&&◌, ◌⊎◌, inl, inr, if◌then◌else◌, Some, None, refl, sym, ap, ◌∙◌, arith, ℤ, pos, neg_ℤ, ◌+ℤ◌, ◌<ℤ◌, ◌*ℤ◌}
use Rattle.std.specs.Int.Signed.{le_z}
use Rattle.jiff_core.proofs.SignedLemmas.{signed_arith, int_div_euclid-parts}
use Rattle.day_number.specs.declared.tenors.Unit.{Unit as TimeUnit}
use Rattle.day_number.specs.declared.tenors.Unit.TheVariants.{Days, Weeks, Months, Years}
use Rattle.day_number.specs.Day.{IsDayNumber, date_of}
use Rattle.day_number.specs.Shift.{month_number, date_months_later, months_later}
use Rattle.day_number.proofs.DayLemmas.{date_of-is}
use Rattle.day_shift.specs.Business.{day_at}
use Rattle.day_shift.specs.Month.{month_at}
use Rattle.day_shift.proofs.SearchLemmas.{le_z-true, le_z-false}
use Rattle.schedule_rules.specs.Step.{units_on}

-- a count of more than 200,000
abbrev pub IsFar : ℤ → Type 0
IsFar n = (n <ℤ neg_ℤ (pos 200_000)) ⊎ (pos 200_000 <ℤ n)

day_at-far : (number : ℤ) → (number <ℤ neg_ℤ (pos 25_202)) ⊎ (pos 84_005 <ℤ number) → day_at number ≡ None
day_at-far number (inl lt) =
    ap (λ b. if b && le_z number (pos 84_005) then Some number else None) (le_z-false (neg_ℤ (pos 25_202)) number lt)
day_at-far number (inr lt) =
    ap (λ b. if b && le_z number (pos 84_005) then Some number else None) (le_z-true (neg_ℤ (pos 25_202)) number (omega (arith, signed_arith)))
    ∙ ap (λ b. if b then Some number else None) (le_z-false number (pos 84_005) lt)

abbrev pub later_year : ℤ → ℤ → ℤ
later_year day n = (date_months_later (date_of day) n).year

pub month_at-out : (day n : ℤ) → (later_year day n <ℤ pos 1901) ⊎ (pos 2199 <ℤ later_year day n) → month_at day n ≡ None
month_at-out day n (inl lt) =
    ap (λ b. if b && le_z (later_year day n) (pos 2199) then Some (months_later day n) else None) (le_z-false (pos 1901) (later_year day n) lt)
month_at-out day n (inr lt) =
    ap (λ b. if b && le_z (later_year day n) (pos 2199) then Some (months_later day n) else None) (le_z-true (pos 1901) (later_year day n) (omega (arith, signed_arith)))
    ∙ ap (λ b. if b then Some (months_later day n) else None) (le_z-false (later_year day n) (pos 2199) lt)

month_at-far : (day n : ℤ) → IsDayNumber day → IsFar n → month_at day n ≡ None
month_at-far day n h (inl lt) =
    let civil = (date_of-is day h).0 in
    month_at-out day n (inl (omega (arith, signed_arith, civil.0, civil.1, int_div_euclid-parts (month_number (date_of day) +ℤ n) 12 (omega arith))))
month_at-far day n h (inr lt) =
    let civil = (date_of-is day h).0 in
    month_at-out day n (inr (omega (arith, signed_arith, civil.0, civil.1, int_div_euclid-parts (month_number (date_of day) +ℤ n) 12 (omega arith))))

more : (n : ℤ) (m : ℤ) → IsFar n → (m ≡ n *ℤ pos 12) → IsFar m
more n m (inl lt) e = inl (omega (arith, signed_arith))
more n m (inr lt) e = inr (omega (arith, signed_arith))

-- lies outside the range
pub units_on-far : (unit : TimeUnit) (day n : ℤ) → IsDayNumber day → IsFar n → None ≡ units_on unit day n
units_on-far Days day n h (inl lt) = sym (day_at-far (day +ℤ n) (inl (omega (arith, signed_arith))))
units_on-far Days day n h (inr lt) = sym (day_at-far (day +ℤ n) (inr (omega (arith, signed_arith))))
units_on-far Weeks day n h (inl lt) = sym (day_at-far (day +ℤ n *ℤ pos 7) (inl (omega (arith, signed_arith))))
units_on-far Weeks day n h (inr lt) = sym (day_at-far (day +ℤ n *ℤ pos 7) (inr (omega (arith, signed_arith))))
units_on-far Months day n h far = sym (month_at-far day n h far)
units_on-far Years day n h far = sym (month_at-far day (n *ℤ pos 12) h (more n (n *ℤ pos 12) far refl))
