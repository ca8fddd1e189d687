-- Small numbers through the casts of signed arithmetic.
use Rattle.std.proofs.Common.{◌≡◌, ℕ, arith, refl, ap, ◌∙◌, ℤ, pos, ◌+ℤ◌, ◌-ℤ◌, ◌*ℤ◌, ◌≤ℤ◌, to_z, of_z, w16, w32, w64, FitsSigned, to_z-of_z}
use Rattle.jiff_core.specs.Calendar.{IsBetween, IsWithin}
use Rattle.jiff_core.proofs.SignedLemmas.{signed_arith, unsigned_abs-parts, one_part, product_within}
use Rattle.year_parts.specs.Parts.{parts_in_year}
use borrow.Author.Differences.{le_in}

-- a year as a smaller number
pub cast_year : (year : ℤ) → IsBetween (pos 1901) (pos 2199) year → to_z w16 (of_z w16 (to_z w32 (of_z w32 year))) ≡ year
cast_year year h =
    let wide : FitsSigned w32 year = omega (arith, signed_arith) in
    let narrow : FitsSigned w16 year = omega (arith, signed_arith) in
    ap (λ z. to_z w16 (of_z w16 z)) (to_z-of_z wide) ∙ to_z-of_z narrow

-- a difference of small numbers
pub cast_gap : (a b : ℤ) → IsWithin 100_000 a → IsWithin 100_000 b → to_z w32 (of_z w32 (to_z w32 (of_z w32 a) -ℤ to_z w32 (of_z w32 b))) ≡ a -ℤ b
cast_gap a b h k =
    let one : FitsSigned w32 a = omega (arith, signed_arith) in
    let other : FitsSigned w32 b = omega (arith, signed_arith) in
    let gap : FitsSigned w32 (a -ℤ b) = omega (arith, signed_arith) in
    rw (to_z-of_z one, to_z-of_z other, to_z-of_z gap) refl

-- a count of days
pub cast_count : (z : ℤ) (n : ℕ) → z ≡ pos n → z ≤ℤ pos 110_000 → to_z w32 (of_z w32 z) ≡ pos n
cast_count z n e h =
    let fits : FitsSigned w32 z = omega (arith, signed_arith) in
    to_z-of_z fits ∙ e

-- a small number
pub cast_small : (z : ℤ) → IsWithin 5_000_000 z → to_z w32 (of_z w32 z) ≡ z
cast_small z h =
    let fits : FitsSigned w32 z = omega (arith, signed_arith) in
    to_z-of_z fits

pub fits_long : (z : ℤ) → IsWithin 1_000_000_000_000 z → FitsSigned w64 z
fits_long z h = omega (arith, signed_arith)

pub cast_long : (z : ℤ) → IsWithin 1_000_000_000_000 z → to_z w64 (of_z w64 z) ≡ z
cast_long z h = to_z-of_z (fits_long z h)

product_bound : (days weight : ℤ) → IsWithin 400 days → IsWithin 50_000 weight → IsWithin 20_000_000 (days *ℤ weight)
product_bound days weight h k =
    let first = unsigned_abs-parts days in
    let one = one_part days in
    let second = unsigned_abs-parts weight in
    let other = one_part weight in
    let size = product_within days weight 400 50_000 (omega (arith, signed_arith)) (omega (arith, signed_arith)) in
    let whole = unsigned_abs-parts (days *ℤ weight) in
    let part = one_part (days *ℤ weight) in
    (omega (arith, whole, size, part, le_in), omega (arith, whole, size, part, le_in))

sum_bound : (years product : ℤ) → IsWithin 400 years → IsWithin 20_000_000 product → IsWithin 1_000_000_000_000 (years *ℤ pos parts_in_year +ℤ product)
sum_bound years product h k = (omega (arith, signed_arith), omega (arith, signed_arith))

-- what the code makes of a year, a day's number and that of 1 January, and the parts of a day
pub record IsScaled (year number first years days weight : ℤ) : Type 0 where
  pub product : FitsSigned w64 (to_z w64 (of_z w64 days) *ℤ to_z w64 (of_z w64 weight))
  pub sum : FitsSigned w64 (to_z w64 (of_z w64 (to_z w64 (of_z w64 years) *ℤ pos parts_in_year)) +ℤ to_z w64 (of_z w64 (to_z w64 (of_z w64 days) *ℤ to_z w64 (of_z w64 weight))))
  pub value : to_z w64 (of_z w64 (to_z w64 (of_z w64 (to_z w64 (of_z w64 years) *ℤ pos parts_in_year)) +ℤ to_z w64 (of_z w64 (to_z w64 (of_z w64 days) *ℤ to_z w64 (of_z w64 weight))))) ≡ (year -ℤ pos 1901) *ℤ pos parts_in_year +ℤ (number -ℤ first) *ℤ weight

pub scaled : (year number first years days weight : ℤ) → IsBetween (pos 1901) (pos 2199) year → IsWithin 100_000 number → IsWithin 100_000 first → IsWithin 400 (number -ℤ first) → IsWithin 50_000 weight → years ≡ to_z w32 (of_z w32 (to_z w32 (of_z w32 year) -ℤ pos 1901)) → days ≡ to_z w32 (of_z w32 (to_z w32 (of_z w32 number) -ℤ to_z w32 (of_z w32 first))) → IsScaled year number first years days weight
scaled year number first years days weight y n f near w from_year from_days =
    let cast = cast_small year (omega (arith, signed_arith), omega (arith, signed_arith)) in
    let years_is : years ≡ year -ℤ pos 1901 = rw cast at from_year ∙ cast_small (year -ℤ pos 1901) (omega (arith, signed_arith), omega (arith, signed_arith)) in
    let days_is : days ≡ number -ℤ first = from_days ∙ cast_gap number first n f in
    let near_days : IsWithin 400 days = rw days_is near in
    let small = product_bound days weight near_days w in
    let one = cast_long days (omega (arith, signed_arith), omega (arith, signed_arith)) in
    let other = cast_long weight (omega (arith, signed_arith), omega (arith, signed_arith)) in
    let whole = cast_long years (omega (arith, signed_arith), omega (arith, signed_arith)) in
    let parts = cast_long (years *ℤ pos parts_in_year) (omega (arith, signed_arith), omega (arith, signed_arith)) in
    let rest = cast_long (days *ℤ weight) (omega (arith, signed_arith, small), omega (arith, signed_arith, small)) in
    let sum_fits = sum_bound years (days *ℤ weight) (omega (arith, signed_arith), omega (arith, signed_arith)) small in
    let sum = cast_long (years *ℤ pos parts_in_year +ℤ days *ℤ weight) sum_fits in
    record {
      product = rw (one, other) (fits_long (days *ℤ weight) (omega (arith, signed_arith, small), omega (arith, signed_arith, small)));
      sum = rw (one, other, whole, parts, rest) (fits_long (years *ℤ pos parts_in_year +ℤ days *ℤ weight) sum_fits);
      value = rw (one, other, whole, parts, rest, sum, years_is, days_is) refl;
    }
