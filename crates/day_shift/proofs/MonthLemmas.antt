-- Months far from the range.
use Rattle.std.proofs.Common.{◌≡◌, ◌&&◌, if◌then◌else◌, Some, None, ap, ◌∙◌, arith, ℤ, pos, neg_ℤ, ◌+ℤ◌, ◌<ℤ◌, ◌*ℤ◌}
use Rattle.std.specs.Int.Signed.{le_z}
use Rattle.jiff_core.proofs.SignedLemmas.{signed_arith, int_div_euclid-parts}
use Rattle.day_number.specs.Day.{IsDayNumber, date_of}
use Rattle.day_number.specs.Shift.{month_number, date_months_later, months_later}
use Rattle.day_number.proofs.DayLemmas.{date_of-is}
use Rattle.day_shift.specs.Month.{month_at}
use Rattle.day_shift.proofs.SearchLemmas.{le_z-true, le_z-false}

abbrev later_year : ℤ → ℤ → ℤ
later_year day n = (date_months_later (date_of day) (n *ℤ pos 12)).year

year-early : (day n : ℤ) → IsDayNumber day → n <ℤ neg_ℤ (pos 1000) → later_year day n <ℤ pos 1901
year-early day n h lt =
    let civil = (date_of-is day h).0 in
    omega (arith, signed_arith, civil.0, civil.1, int_div_euclid-parts (month_number (date_of day) +ℤ n *ℤ pos 12) 12 (omega arith))

year-late : (day n : ℤ) → IsDayNumber day → pos 1000 <ℤ n → pos 2199 <ℤ later_year day n
year-late day n h lt =
    let civil = (date_of-is day h).0 in
    omega (arith, signed_arith, civil.0, civil.1, int_div_euclid-parts (month_number (date_of day) +ℤ n *ℤ pos 12) 12 (omega arith))

-- more than a thousand years back or on lies no day of the range
pub month_at-early : (day n : ℤ) → IsDayNumber day → n <ℤ neg_ℤ (pos 1000) → month_at day (n *ℤ pos 12) ≡ None
month_at-early day n h lt =
    let out = le_z-false (pos 1901) (later_year day n) (year-early day n h lt) in
    ap (λ b. if b && le_z (later_year day n) (pos 2199) then Some (months_later day (n *ℤ pos 12)) else None) out

pub month_at-late : (day n : ℤ) → IsDayNumber day → pos 1000 <ℤ n → month_at day (n *ℤ pos 12) ≡ None
month_at-late day n h lt =
    let late = year-late day n h lt in
    let after = le_z-true (pos 1901) (later_year day n) (omega (arith, signed_arith, late)) in
    let out = le_z-false (later_year day n) (pos 2199) late in
    ap (λ b. if b && le_z (later_year day n) (pos 2199) then Some (months_later day (n *ℤ pos 12)) else None) after
    ∙ ap (λ b. if b then Some (months_later day (n *ℤ pos 12)) else None) out
