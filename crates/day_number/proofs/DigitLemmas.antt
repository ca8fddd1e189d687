-- Numbers that decimal digits write.
use Rattle.std.proofs.Common.{◌≡◌, ℕ, zero, suc, ◌+◌, ◌-◌, ◌*◌, ◌^◌, ◌<◌, ◌≤◌, true, false, nat_lt, List, [], ◌∷◌, ◌++◌, length, take, get_or, refl, arith, Some, None}
use Rattle.std.proofs.lemmas.List.{take_more, length-take}
use Rattle.std.proofs.lemmas.Bool.Decides.{nat_tests}
use Rattle.std.proofs.lemmas.Int.Digits.{digits_value_more}
use Rattle.std.proofs.lemmas.Str.{digit_value_digit}
use Rattle.std.proofs.lemmas.Str.Parse.{IsNumeralModel, numerals_by_value, tells_all_ascii_digits, digits_value_short}
use Rattle.std.specs.Char.{is_ascii_digit, digit_value}
use Rattle.std.specs.Int.{IsInRange}
use Rattle.std.specs.Str.{all_ascii_digits}
use Rattle.std.specs.Str.Parse.{digits_value}
use Rattle.day_number.specs.Text.{number_of_text}

-- all decimal digits, and the number that they write: std's words for a numeral
pub numerals : IsNumeralModel (λ ds. all_ascii_digits ds ≡ true) (digits_value 10)
numerals = numerals_by_value _ tells_all_ascii_digits

all_digits-push : (ds : List ℕ) (d : ℕ) → all_ascii_digits ds ≡ true → is_ascii_digit d ≡ true → all_ascii_digits (ds ++ d ∷ []) ≡ true
all_digits-push [] d h k = rw k refl
all_digits-push (c ∷ cs) d h k =
    let parts = tells_all_ascii_digits.parts c cs h in
    tells_all_ascii_digits.more c (cs ++ d ∷ []) parts.0 (all_digits-push cs d parts.1 k)

-- one digit more
pub digits-more : (text : List ℕ) (i : ℕ) → i < length text → all_ascii_digits (take i text) ≡ true → is_ascii_digit (get_or text i 0) ≡ true → all_ascii_digits (take (i + 1) text) ≡ true
digits-more text i lt h k = rw (take_more text i 0 lt) (all_digits-push (take i text) (get_or text i 0) h k)

-- a byte that is no digit
pub not_digits : (text : List ℕ) (i : ℕ) → i < length text → is_ascii_digit (get_or text i 0) ≡ false → all_ascii_digits text ≡ false
not_digits [] i lt h = absurd (omega arith)
not_digits (c ∷ cs) zero lt h = rw h refl
not_digits (c ∷ cs) (suc i) lt h = rw (not_digits cs i (omega arith) h) (grind arith)

pub value-more : (text : List ℕ) (i : ℕ) → i < length text → is_ascii_digit (get_or text i 0) ≡ true → digits_value 10 (take (i + 1) text) ≡ digits_value 10 (take i text) * 10 + (get_or text i 0 - 48)
value-more text i lt h =
    let range : IsInRange 48 57 (get_or text i 0) = grind (arith, nat_tests) in
    let digit : digit_value (get_or text i 0) ≡ get_or text i 0 - 48 = omega (arith, digit_value_digit (get_or text i 0) range) in
    rw (← digit) (digits_value_more 10 text i lt)

-- a text with a byte that is no digit writes no number
pub no_number : (text : List ℕ) (i : ℕ) → i < length text → is_ascii_digit (get_or text i 0) ≡ false → number_of_text text ≡ None
no_number text i lt h =
    let none = not_digits text i lt h in
    let some : nat_lt 0 (length text) ≡ true = grind (arith, nat_tests) in
    rw (none, some) refl

-- and one of digits alone writes their number
pub some_number : (text : List ℕ) → 0 < length text → all_ascii_digits text ≡ true → number_of_text text ≡ Some (digits_value 10 text)
some_number text long h =
    let some : nat_lt 0 (length text) ≡ true = grind (arith, nat_tests) in
    rw (h, some) refl

-- i digits write a number below 10 to any power of at least i
pub value-lt : (text : List ℕ) (i k : ℕ) → all_ascii_digits (take i text) ≡ true → i ≤ k → digits_value 10 (take i text) < 10 ^ k
value-lt text i k h le = digits_value_short numerals (take i text) k h (omega (arith, length-take i text))
