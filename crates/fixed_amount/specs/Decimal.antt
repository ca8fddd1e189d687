-- Decimal text: an optional `-`, one or more digits, and optionally a `.` with one or more digits.
use Rattle.std.specs.Prelude.{◌≡◌, ◌≢◌, ℕ, zero, suc, ◌+◌, ◌-◌, ◌*◌, ◌/◌, ◌%◌, ◌^◌, ◌<◌, ◌≤◌, Bool, true, false, ◌&&◌, List, [], ◌∷◌, ◌++◌, length, slice_index, take, drop, ℤ, pos, neg_ℤ, ◌≤ℤ◌, ◌<ℤ◌, unsigned_abs, int_le, int_lt, nat_lt, ◌==◌, if◌then◌else◌, decimal, Result, Ok, Err, ◌⊎◌}
use Rattle.std.specs.Char.{is_ascii_digit}
use Rattle.std.specs.Int.{is_negative}
use Rattle.std.specs.Fmt.{sign_text}
use Rattle.std.specs.List.{list_all, prefix_len}
use Rattle.std.specs.Str.Parse.{digits_value}
use Rattle.fixed_amount.specs.declared.decimal.DecimalFault.{DecimalFault}
use Rattle.fixed_amount.specs.declared.decimal.DecimalFault.TheVariants.{Empty, Char, Places, Range}

-- each byte is a digit
abbrev pub all_digits : List ℕ → Bool
all_digits text = list_all is_ascii_digit text

-- how many digits the text begins with
abbrev pub digit_count : List ℕ → ℕ
digit_count text = prefix_len is_ascii_digit text

-- the point and the digits behind it; no digits stand for no point
abbrev pub point_text : List ℕ → List ℕ
point_text [] = []
point_text (digit ∷ digits) = 46 ∷ digit ∷ digits

-- the grammar: the text is this sign, these whole digits and these digits behind the point (this project's profile)
pub record IsDecimal (text : List ℕ) (negative : Bool) (whole fraction : List ℕ) : Type 0 where
  pub nonempty : 0 < length whole
  pub whole_digits : all_digits whole ≡ true
  pub fraction_digits : all_digits fraction ≡ true
  pub written : text ≡ sign_text negative ++ (whole ++ point_text fraction)

-- the text is a decimal
pub record IsDecimalText (text : List ℕ) : Type 0 where
  pub negative : Bool
  pub whole : List ℕ
  pub fraction : List ℕ
  pub shape : IsDecimal text negative whole fraction

-- the text is the beginning of some decimal
pub record IsDecimalStart (text : List ℕ) : Type 0 where
  pub more : List ℕ
  pub whole_text : IsDecimalText (text ++ more)

-- the number of this size, below zero where negative
abbrev pub signed : Bool → ℕ → ℤ
signed negative size = if negative then neg_ℤ (pos size) else pos size

-- the number that a decimal writes, times 10^places
abbrev pub units_of : Bool → List ℕ → List ℕ → ℕ → ℤ
units_of negative whole fraction places =
    signed negative (digits_value 10 whole * 10 ^ places + digits_value 10 fraction * 10 ^ (places - length fraction))

-- the number is one of 64 bits
abbrev pub fits_i64 : ℤ → Bool
fits_i64 units = int_le (neg_ℤ (pos (2 ^ 63))) units && int_lt units (pos (2 ^ 63))

-- the number where it fits
abbrev pub in_range : ℤ → Result ℤ DecimalFault
in_range units = if fits_i64 units then Ok units else Err Range

-- a decimal's units by its parts, where its fraction and the number fit
abbrev pub in_units : Bool → List ℕ → List ℕ → ℕ → Result ℤ DecimalFault
in_units negative whole fraction places = if nat_lt places (length fraction)
    then Err Places
    else in_range (units_of negative whole fraction places)

-- what stands behind the point, `at` bytes into the text: digits, at least one
abbrev pub fraction_value : ℕ → Bool → List ℕ → List ℕ → ℕ → Result ℤ DecimalFault
fraction_value at negative whole text places = if nat_lt 0 (length text) && all_digits text
    then in_units negative whole text places
    else Err (Char (at + digit_count text))

-- what stands behind the whole part, `at` bytes into the text: nothing, or the point
abbrev pub point_value : ℕ → Bool → List ℕ → List ℕ → ℕ → Result ℤ DecimalFault
point_value at negative whole [] places = in_units negative whole [] places
point_value at negative whole (byte ∷ text) places = if byte == 46
    then fraction_value (at + 1) negative whole text places
    else Err (Char at)

-- what stands behind the sign, `at` bytes into the text: the whole part, at least one digit
abbrev pub whole_value : ℕ → Bool → List ℕ → ℕ → Result ℤ DecimalFault
whole_value at negative text places = if digit_count text == 0
    then Err (Char at)
    else point_value (at + digit_count text) negative (take (digit_count text) text) (drop (digit_count text) text) places

-- the value of a decimal times 10^places, or its first fault (this project's profile)
unfoldable pub decimal_value : List ℕ → ℕ → Result ℤ DecimalFault
decimal_value [] places = Err Empty
decimal_value (byte ∷ text) places = if byte == 45
    then whole_value 1 true text places
    else whole_value 0 false (byte ∷ text) places

-- units is the number that the text writes times 10^places, with few enough digits behind the point, and fits 64 bits
pub record WritesUnits (text : List ℕ) (places : ℕ) (units : ℤ) : Type 0 where
  pub negative : Bool
  pub whole : List ℕ
  pub fraction : List ℕ
  pub shape : IsDecimal text negative whole fraction
  pub few : length fraction ≤ places
  pub value : units ≡ units_of negative whole fraction places
  pub low : neg_ℤ (pos (2 ^ 63)) ≤ℤ units
  pub high : units <ℤ pos (2 ^ 63)

-- the text is a decimal with more digits behind the point than `places`
pub record HasManyPlaces (text : List ℕ) (places : ℕ) : Type 0 where
  pub negative : Bool
  pub whole : List ℕ
  pub fraction : List ℕ
  pub shape : IsDecimal text negative whole fraction
  pub many : places < length fraction

-- the text is a decimal with few enough digits behind the point, whose number times 10^places is none of 64 bits
pub record IsOutOfRange (text : List ℕ) (places : ℕ) : Type 0 where
  pub negative : Bool
  pub whole : List ℕ
  pub fraction : List ℕ
  pub shape : IsDecimal text negative whole fraction
  pub few : length fraction ≤ places
  pub far : (units_of negative whole fraction places <ℤ neg_ℤ (pos (2 ^ 63))) ⊎ (pos (2 ^ 63) ≤ℤ units_of negative whole fraction places)

-- the text is no decimal, and `at` is the first place at which the text up to and including that byte begins none, or the length where the whole text begins one
pub record IsFirstFault (text : List ℕ) (at : ℕ) : Type 0 where
  pub nonempty : 0 < length text
  pub no_decimal : ¬ (IsDecimalText text)
  pub before : IsDecimalStart (take at text)
  pub after : (at ≡ length text) ⊎ ((at < length text) × (¬ (IsDecimalStart (take (at + 1) text))))

-- the last digits of n, this many, leading zeros kept
abbrev pub last_digits : ℕ → ℕ → List ℕ
last_digits zero n = []
last_digits (suc count) n = last_digits count (n / 10) ++ (48 + n % 10) ∷ []

-- the decimal with exactly this many digits behind the point that writes units / 10^places, with no leading zero but `0` itself (this project's profile)
unfoldable pub decimal_text : ℤ → ℕ → List ℕ
decimal_text units places = sign_text (is_negative units)
    ++ (decimal (unsigned_abs units / 10 ^ places) ++ point_text (last_digits places (unsigned_abs units)))

-- the text is the decimal of units / 10^places with exactly so many digits behind the point, no `0` before another whole digit and no sign before zero (this project's profile)
pub record IsExactDecimal (text : List ℕ) (units : ℤ) (places : ℕ) : Type 0 where
  pub negative : Bool
  pub whole : List ℕ
  pub fraction : List ℕ
  pub shape : IsDecimal text negative whole fraction
  pub exact : length fraction ≡ places
  pub no_surplus_zero : slice_index whole 0 ≡ 48 → length whole ≡ 1
  pub no_signed_zero : negative ≡ true → units ≢ pos 0
  pub value : units ≡ units_of negative whole fraction places
