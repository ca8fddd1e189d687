-- The parts of a decimal, as they are counted and read.
use Rattle.std.proofs.Common.{◌≡◌, ℕ, ◌+◌, ◌^◌, ◌<◌, Bool, true, false, ◌&&◌, cond, nat_lt, List, [], ◌∷◌, ◌++◌, length, take, min, ℤ, Result, Err, refl, sym, ap, ◌∙◌, arith, take_all}
use Rattle.std.specs.Char.{is_ascii_digit}
use Rattle.std.specs.Str.Parse.{digits_value}
use Rattle.std.proofs.lemmas.Bool.{and_from, lt-ltb}
use Rattle.fixed_amount.specs.declared.decimal.DecimalFault.{DecimalFault}
use Rattle.fixed_amount.specs.declared.decimal.DecimalFault.TheVariants.{Char}
use Rattle.fixed_amount.specs.Decimal.{all_digits, digit_count, in_units, fraction_value, point_value}
use Rattle.fixed_amount.proofs.Digits.{all_counted, not_all_counted}

-- the number that digits write, or 10^19 where it is that or more
abbrev pub capped : List ℕ → ℕ
capped digits = min (digits_value 10 digits) (10 ^ 19)

and_false : (b : Bool) → (b && false) ≡ false
and_false true = refl
and_false false = refl

-- a fraction is some digits
abbrev is_fraction : List ℕ → Bool
is_fraction text = nat_lt 0 (length text) && all_digits text

fault_at : (at : ℕ) (negative : Bool) (digits text : List ℕ) (places count : ℕ) → count ≡ digit_count text → is_fraction text ≡ false → Err (Char (at + count)) ≡ fraction_value at negative digits text places
fault_at at negative digits text places count e h =
    ap (λ n. Err (Char (at + n))) e ∙ sym (ap (λ b. cond b (in_units negative digits text places) (Err (Char (at + digit_count text)))) h)

-- a byte that is no digit stands in it
pub fraction_fault : (at : ℕ) (negative : Bool) (digits text : List ℕ) (places count : ℕ) → count ≡ digit_count text → count < length text → Err (Char (at + count)) ≡ fraction_value at negative digits text places
fraction_fault at negative digits text places count e less =
    let some : digit_count text < length text = omega (arith, e) in
    fault_at at negative digits text places count e (ap (λ b. nat_lt 0 (length text) && b) (not_all_counted is_ascii_digit text some) ∙ and_false (nat_lt 0 (length text)))

-- no byte stands there
pub fraction_none : (at : ℕ) (negative : Bool) (digits text : List ℕ) (places : ℕ) → length text < 1 → Err (Char at) ≡ fraction_value at negative digits text places
fraction_none at negative digits [] places none = let e : at ≡ at + 0 = omega arith in ap (λ n. Err (Char n)) e
fraction_none at negative digits (x ∷ text) places none = absurd (omega arith)

-- all of its bytes are digits
pub fraction_read : (at : ℕ) (negative : Bool) (digits text : List ℕ) (places count number : ℕ) (result : Result ℤ DecimalFault)
    → count ≡ digit_count text → number ≡ capped (digits ++ take (digit_count text) text) → 0 < count → count ≡ length text
    → ((fraction : List ℕ) → number ≡ capped (digits ++ fraction) → count ≡ length fraction → result ≡ in_units negative digits fraction places)
    → result ≡ fraction_value at negative digits text places
fraction_read at negative digits text places count number result e is some whole by =
    let all : digit_count text ≡ length text = sym e ∙ whole in
    let same : take (digit_count text) text ≡ text = ap (λ n. take n text) all ∙ take_all (length text) text (omega arith) in
    let good : is_fraction text ≡ true = and_from (nat_lt 0 (length text)) (all_digits text) (lt-ltb 0 (length text) (omega (arith, whole, some))) (all_counted is_ascii_digit text all) in
    by text (is ∙ ap (λ t. capped (digits ++ t)) same) whole ∙ sym (ap (λ b. cond b (in_units negative digits text places) (Err (Char (at + digit_count text)))) good)

-- no point and no fraction
pub point_none : (at : ℕ) (negative : Bool) (digits text : List ℕ) (places : ℕ) (result : Result ℤ DecimalFault) → length text < 1 → result ≡ in_units negative digits [] places → result ≡ point_value at negative digits text places
point_none at negative digits [] places result none is = is
point_none at negative digits (x ∷ text) places result none is = absurd (omega arith)
