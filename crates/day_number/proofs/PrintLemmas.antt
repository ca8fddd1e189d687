-- Numbers printed with leading zeros.
use Rattle.std.proofs.Common.{◌≡◌, ℕ, ◌-◌, ◌/◌, ◌%◌, ◌^◌, ◌<◌, ◌≤◌, ◌++◌, refl, arith, inl, inr}
use Rattle.std.proofs.lemmas.Bool.{cases_order}
use Rattle.std.proofs.lemmas.Fmt.{decimal_digit, decimal_step}
use Rattle.std.specs.Fmt.{format_spec, styled_decimal}
use Rattle.std.specs.Fmt.{padded_integral, char_count}
use Rattle.day_number.specs.Day.{two_digits}

-- two digits as `{:02}` writes them
pub two_printed : (n : ℕ) → n < 100 → styled_decimal (format_spec 32 0 4 2 (2 ^ 64 - 1)) n ≡ two_digits n
unfolding padded_integral char_count
two_printed n h =
    elim (cases_order n 10) [
      | inr (inl lt) ↦ (let high : n / 10 ≡ 0 = omega arith in let low : n % 10 ≡ n = omega arith in rw (decimal_digit n lt, high, low) refl)
      | inl same ↦ rw (decimal_step n (omega arith) (omega arith), decimal_digit (n / 10) (omega arith)) refl
      | inr (inr gt) ↦ rw (decimal_step n (omega arith) (omega arith), decimal_digit (n / 10) (omega arith)) refl
    ]

-- and four as `{:04}` does, without a leading zero
pub four_printed : (n : ℕ) → 1000 ≤ n → n ≤ 9999 → styled_decimal (format_spec 32 0 4 4 (2 ^ 64 - 1)) n ≡ two_digits (n / 100) ++ two_digits (n % 100)
unfolding padded_integral char_count
four_printed n low high =
    let a : n / 10 / 10 / 10 ≡ n / 100 / 10 = omega arith in
    let b : n / 10 / 10 % 10 ≡ n / 100 % 10 = omega arith in
    let d : n / 10 % 10 ≡ n % 100 / 10 = omega arith in
    let e : n % 10 ≡ n % 100 % 10 = omega arith in
    rw (decimal_step n (omega arith) (omega arith), decimal_step (n / 10) (omega arith) (omega arith), decimal_step (n / 10 / 10) (omega arith) (omega arith), decimal_digit (n / 10 / 10 / 10) (omega arith), a, b, d, e) refl
