-- The bytes of a printed word.
use Rattle.std.proofs.Common.{◌≡◌, ℕ, ◌+◌, ◌≤◌, ◌<◌, ◌^◌, ◌/◌, ◌%◌, Bool, true, false, not, ◌&&◌, List, [], ◌∷◌, ◌++◌, length, nat_le, ℤ, unsigned_abs, refl, ◌∙◌, arith, length-append, rules}
use Rattle.std.specs.List.{list_all}
use Rattle.std.specs.Char.{is_ascii_digit, is_ascii_alphabetic}
use Rattle.std.specs.Fmt.{decimal, sign_text}
use Rattle.std.specs.Int.{is_negative}
use Rattle.std.proofs.lemmas.Bool.{and_parts, and_from}
use Rattle.std.proofs.lemmas.Bool.Decides.{nat_tests}
use Rattle.std.proofs.lemmas.Fmt.{digits_decimal, decimal_nonempty}
use Rattle.std.proofs.lemmas.List.Folds.{list_all-append}
use Rattle.std.proofs.Math.Nat.{div-le_self}
use Rattle.fixed_amount.specs.Decimal.{decimal_text, point_text, last_digits, all_digits}
use Rattle.fixed_amount.proofs.Digits.{all_digits-last}
use Rattle.day_number.specs.Day.{IsDayNumber, day_text, two_digits, date_text, date_of}
use Rattle.day_number.proofs.DayLemmas.{date_of-is}
use Rattle.std.specs.Str.Parse.{digits_value}
use Rattle.std.proofs.lemmas.Int.{ints}
use Rattle.std.proofs.lemmas.Str.Parse.{IsNumeralModel, numerals_by_value}
use Rattle.desk_names.specs.Name.{is_name, has_form, is_name_byte, is_reserved}
use Rattle.script_words.proofs.LineWords.{is_word_byte, all_weaker}

-- a word: some such bytes
pub record IsWord (word : List ℕ) : Type 0 where
  pub some : 0 < length word
  pub bytes : list_all is_word_byte word ≡ true

name_byte : (byte : ℕ) → is_name_byte byte ≡ true → is_word_byte byte ≡ true
unfolding is_name_byte
name_byte byte h = grind (arith, nat_tests)

alphabetic : (byte : ℕ) → is_ascii_alphabetic byte ≡ true → is_name_byte byte ≡ true
unfolding is_name_byte
alphabetic byte h = grind (arith, nat_tests)

formed : (text : List ℕ) → has_form text ≡ true → IsWord text
unfolding has_form
formed [] h = absurd (cc)
formed (first ∷ rest) h =
    let parts = and_parts (is_ascii_alphabetic first) (list_all is_name_byte rest) h in
    record {
      some = omega arith;
      bytes = and_from (is_word_byte first) (list_all is_word_byte rest) (name_byte first (alphabetic first parts.0)) (all_weaker is_name_byte is_word_byte name_byte rest parts.1);
    }

first_true : (a b c : Bool) → (a && b && c) ≡ true → a ≡ true
first_true true b c h = refl
first_true false b c h = h

-- a name is a word
pub name_word : (text : List ℕ) → is_name text ≡ true → IsWord text
unfolding is_name
name_word text h = formed text (first_true (has_form text) (nat_le (length text) 32) (not (is_reserved text)) h)

digit_byte : (byte : ℕ) → is_ascii_digit byte ≡ true → is_word_byte byte ≡ true
digit_byte byte h = grind (arith, nat_tests)

digits_bytes : (digits : List ℕ) → all_digits digits ≡ true → list_all is_word_byte digits ≡ true
digits_bytes digits h = all_weaker is_ascii_digit is_word_byte digit_byte digits h

point_bytes : (digits : List ℕ) → all_digits digits ≡ true → list_all is_word_byte (point_text digits) ≡ true
point_bytes [] h = refl
point_bytes (d ∷ digits) h = digits_bytes (d ∷ digits) h

own : IsNumeralModel (λ ds. all_digits ds ≡ true) (digits_value 10)
own = numerals_by_value (λ ds. all_digits ds ≡ true) (search rules)

sign_bytes : (negative : Bool) → list_all is_word_byte (sign_text negative) ≡ true
sign_bytes true = refl
sign_bytes false = refl

join_bytes : (a b : List ℕ) → list_all is_word_byte a ≡ true → list_all is_word_byte b ≡ true → list_all is_word_byte (a ++ b) ≡ true
join_bytes a b h k = list_all-append is_word_byte a b ∙ and_from (list_all is_word_byte a) (list_all is_word_byte b) h k

-- a printed decimal is a word
pub decimal_word : (units : ℤ) (places : ℕ) → unsigned_abs units < 2 ^ 64 → IsWord (decimal_text units places)
unfolding decimal_text
decimal_word units places h =
    let small : unsigned_abs units / 10 ^ places < 2 ^ 64 = omega (arith, div-le_self (unsigned_abs units) (10 ^ places)) in
    let whole : List ℕ = decimal (unsigned_abs units / 10 ^ places) in
    let fraction : List ℕ = point_text (last_digits places (unsigned_abs units)) in
    record {
      some = simp length-append (omega (arith, decimal_nonempty (unsigned_abs units / 10 ^ places) small));
      bytes = join_bytes (sign_text (is_negative units)) (decimal (unsigned_abs units / 10 ^ places) ++ point_text (last_digits places (unsigned_abs units))) (sign_bytes (is_negative units))
          (join_bytes (decimal (unsigned_abs units / 10 ^ places)) (point_text (last_digits places (unsigned_abs units))) (digits_bytes (decimal (unsigned_abs units / 10 ^ places)) (digits_decimal own (unsigned_abs units / 10 ^ places) small))
          (point_bytes (last_digits places (unsigned_abs units)) (all_digits-last places (unsigned_abs units))));
    }

digit_at : (d : ℕ) → d ≤ 9 → is_word_byte (48 + d) ≡ true
digit_at d h = grind (arith, nat_tests)

cons_bytes : (b : ℕ) (rest : List ℕ) → is_word_byte b ≡ true → list_all is_word_byte rest ≡ true → list_all is_word_byte (b ∷ rest) ≡ true
cons_bytes b rest h k = and_from (is_word_byte b) (list_all is_word_byte rest) h k

two_bytes : (n : ℕ) (rest : List ℕ) → n < 100 → list_all is_word_byte rest ≡ true → list_all is_word_byte (two_digits n ++ rest) ≡ true
two_bytes n rest h k = cons_bytes (48 + n / 10) ((48 + n % 10) ∷ rest) (digit_at (n / 10) (omega arith)) (cons_bytes (48 + n % 10) rest (digit_at (n % 10) (omega arith)) k)

date_bytes : (year month day : ℕ) → year < 10000 → month < 100 → day < 100 → list_all is_word_byte (date_text year month day) ≡ true
date_bytes year month day hy hm hd =
    two_bytes (year / 100) (two_digits (year % 100) ++ 45 ∷ two_digits month ++ 45 ∷ two_digits day) (omega arith)
    (two_bytes (year % 100) (45 ∷ two_digits month ++ 45 ∷ two_digits day) (omega arith)
    (cons_bytes 45 (two_digits month ++ 45 ∷ two_digits day) refl
    (two_bytes month (45 ∷ two_digits day) hm
    (cons_bytes 45 (two_digits day) refl
    (two_bytes day [] hd refl)))))

-- a printed day is a word
pub day_word : (day : ℤ) → IsDayNumber day → IsWord (day_text day)
day_word day h =
    let of = date_of-is day h in
    let civil = of.0 in
    record {
      some = omega arith;
      bytes = date_bytes (unsigned_abs (date_of day).year) (date_of day).month (date_of day).day (omega (arith, ints, civil.0)) (omega (arith, civil.1)) (grind (arith, nat_tests, civil.2));
    }
