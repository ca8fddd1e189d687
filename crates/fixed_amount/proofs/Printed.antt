-- What is printed is read back.
use Rattle.std.proofs.Common.{◌≡◌, ℕ, ◌+◌, ◌-◌, ◌*◌, ◌/◌, ◌%◌, ◌^◌, ◌<◌, ℤ, pos, negsuc, neg_ℤ, ◌≤ℤ◌, ◌<ℤ◌, true, refl, sym, arith, rules, Ok, unsigned_abs, decimal, false, nat_lt}
use Rattle.std.proofs.lemmas.Bool.{le-ltb}
use Rattle.std.specs.Int.{is_negative}
use Rattle.std.specs.Str.Parse.{digits_value}
use Rattle.std.proofs.lemmas.Fmt.{decimal_is_IsNumeral_wide}
use Rattle.std.proofs.lemmas.Int.{ints}
use Rattle.std.proofs.lemmas.Nat.{div-add-mod'}
use Rattle.std.proofs.lemmas.Str.Parse.{IsNumeralModel, numerals_by_value}
use Rattle.std.proofs.Math.Nat.{div-le_self}
use Rattle.fixed_amount.specs.Decimal.{all_digits, IsDecimal, signed, units_of, last_digits, decimal_text, decimal_value}
use Rattle.fixed_amount.proofs.Digits.{all_digits-last, digits_value-last, length-last_digits}
use Rattle.fixed_amount.proofs.DecimalLaws.{value_from}

-- the digits of std's numerals are those of the grammar
pub own : IsNumeralModel (λ ds. all_digits ds ≡ true) (digits_value 10)
own = numerals_by_value (λ ds. all_digits ds ≡ true) (search rules)

-- a number is its magnitude with its sign
signed_abs : (z : ℤ) → signed (is_negative z) (unsigned_abs z) ≡ z
signed_abs (pos n) = let e : nat_lt n 0 ≡ false = le-ltb n 0 (omega arith) in rw e
signed_abs (negsuc n) = refl

-- a printed number is a decimal
pub printed_shape : (units : ℤ) (places : ℕ) → unsigned_abs units < 10 ^ 64 → IsDecimal (decimal_text units places) (is_negative units) (decimal (unsigned_abs units / 10 ^ places)) (last_digits places (unsigned_abs units))
unfolding decimal_text
printed_shape units places h =
    let numeral = decimal_is_IsNumeral_wide (unsigned_abs units / 10 ^ places) (omega (arith, div-le_self (unsigned_abs units) (10 ^ places))) in
    record {
      nonempty = numeral.0.0;
      whole_digits = own.from (decimal (unsigned_abs units / 10 ^ places)) numeral.0.1;
      fraction_digits = all_digits-last places (unsigned_abs units);
      written = refl;
    }

-- and writes the number
pub printed_value : (units : ℤ) (places : ℕ) → unsigned_abs units < 10 ^ 64 → units ≡ units_of (is_negative units) (decimal (unsigned_abs units / 10 ^ places)) (last_digits places (unsigned_abs units)) places
printed_value units places h =
    let numeral = decimal_is_IsNumeral_wide (unsigned_abs units / 10 ^ places) (omega (arith, div-le_self (unsigned_abs units) (10 ^ places))) in
    let none : places - places ≡ 0 = omega arith in
    let whole = div-add-mod' (unsigned_abs units) (10 ^ places) in
    let size : unsigned_abs units / 10 ^ places * 10 ^ places + unsigned_abs units % 10 ^ places * 1 ≡ unsigned_abs units = omega arith in
    rw (numeral.1, digits_value-last places (unsigned_abs units), length-last_digits places (unsigned_abs units), none, size) (sym (signed_abs units))

-- the round trip
pub printed_read : (units : ℤ) (places : ℕ) → neg_ℤ (pos (2 ^ 63)) ≤ℤ units → units <ℤ pos (2 ^ 63) → decimal_value (decimal_text units places) places ≡ Ok units
printed_read units places low high =
    let small : unsigned_abs units < 10 ^ 64 = omega (arith, ints) in
    value_from (decimal_text units places) places units (record {
      negative = is_negative units;
      whole = decimal (unsigned_abs units / 10 ^ places);
      fraction = last_digits places (unsigned_abs units);
      shape = printed_shape units places small;
      few = omega (arith, length-last_digits places (unsigned_abs units));
      value = printed_value units places small;
      low = low;
      high = high;
    })
