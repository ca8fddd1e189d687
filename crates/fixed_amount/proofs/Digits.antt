-- Lemmas on the digits that a text begins with, and on the last digits of a number.
use Rattle.std.proofs.Common.{◌≡◌, ℕ, zero, suc, ◌+◌, ◌-◌, ◌*◌, ◌/◌, ◌%◌, ◌^◌, ◌<◌, ◌≤◌, Bool, true, false, List, [], ◌∷◌, ◌++◌, length, take, drop, set, refl, arith, length-append, nat_le, decimal, ap, sym, ◌∙◌, take_all, eq-zero-or-pos, inl, inr}
use Rattle.std.specs.Str.Parse.{digits_value, digits_value_after}
use Rattle.std.proofs.lemmas.Nat.{mod_below, pow-add, div-add-mod'}
use Rattle.std.proofs.lemmas.Int.Digits.{digits_value_push}
use Rattle.std.proofs.Math.Arith.{mod-mul}
use Rattle.std.proofs.Math.Numerals.{one-add}
use Rattle.std.proofs.lemmas.Bool.{and_parts, and_from, leb-true, le-ltb, lt-ltb, le-leb}
use Rattle.std.proofs.lemmas.List.{drop-drop, take-append-drop, append-nil, append_assoc, length-take-le}
use Rattle.std.proofs.lemmas.List.Folds.{list_all-append}
use Rattle.std.specs.Char.{is_ascii_digit, digit_value}
use Rattle.std.specs.List.{list_all, prefix_len}
use Rattle.std.proofs.Math.Nat.{pow-suc, one-le-pow, pow-le-pow_right, mod-eq_of_lt, le-mul_of_pos_right, div-le_self}
use Rattle.std.proofs.lemmas.Fmt.{decimal_digit, decimal_step_wide, length-decimal-le_wide}
use Rattle.fixed_amount.specs.Decimal.{all_digits, point_text, last_digits}

-- the elements that a list begins with and that pass all pass
pub list_all-front : {X : Type 0} (p : X → Bool) (xs : List X) → list_all p (take (prefix_len p xs) xs) ≡ true
list_all-front p [] = refl
list_all-front p (x ∷ xs) = by_test (p x) refl (list_all-front p xs) where
  by_test : (b : Bool) → p x ≡ b → list_all p (take (prefix_len p xs) xs) ≡ true → list_all p (take (prefix_len p (x ∷ xs)) (x ∷ xs)) ≡ true
  by_test true e rest = simp (e, one-add) rest
  by_test false e rest = simp e

-- as many digits as asked for
pub length-last_digits : (count n : ℕ) → length (last_digits count n) ≡ count
length-last_digits zero n = refl
length-last_digits (suc count) n = rw (length-append, length-last_digits count (n / 10)) (omega arith)

-- digits behind a point
pub point_text_some : (digits : List ℕ) → 0 < length digits → point_text digits ≡ 46 ∷ digits
point_text_some [] h = absurd (omega arith)
point_text_some (digit ∷ digits) h = refl

-- the value of a digit
pub digit_value_is : (c : ℕ) → is_ascii_digit c ≡ true → (48 ≤ c) × (c ≤ 57) × (digit_value c ≡ c - 48)
digit_value_is c h =
    let low : 48 ≤ c = leb-true 48 c (and_parts (nat_le 48 c) (nat_le c 57) h).0 in
    let high : c ≤ 57 = leb-true c 57 (and_parts (nat_le 48 c) (nat_le c 57) h).1 in
    let below : c < 58 = omega arith in
    (low, high, simp (le-ltb c 48 low, lt-ltb c 58 below))

-- digits before what begins with none are the digits that the whole begins with
pub prefix_len-all : {X : Type 0} (p : X → Bool) (xs rest : List X) → list_all p xs ≡ true → prefix_len p rest ≡ 0 → prefix_len p (xs ++ rest) ≡ length xs
prefix_len-all p [] rest all none = none
prefix_len-all p (x ∷ xs) rest all none = let h = and_parts (p x) (list_all p xs) all in
    rw (h.0, one-add, prefix_len-all p xs rest h.1 none)

-- digits before what begins with none are counted
pub count_at : {X : Type 0} (p : X → Bool) (xs : List X) (i : ℕ) → i ≤ length xs → list_all p (take i xs) ≡ true → prefix_len p (drop i xs) ≡ 0 → prefix_len p xs ≡ i
count_at p xs i le all none = sym (ap (prefix_len p) (take-append-drop i xs)) ∙ prefix_len-all p (take i xs) (drop i xs) all none ∙ length-take-le i xs le

-- where all are counted, all pass
pub all_counted : {X : Type 0} (p : X → Bool) (xs : List X) → prefix_len p xs ≡ length xs → list_all p xs ≡ true
all_counted p xs e = sym (ap (list_all p) (ap (λ n. take n xs) e ∙ take_all (length xs) xs (omega arith))) ∙ list_all-front p xs

-- and where not all are, one does not
pub not_all_counted : {X : Type 0} (p : X → Bool) (xs : List X) → prefix_len p xs < length xs → list_all p xs ≡ false
not_all_counted p xs less = by (list_all p xs) refl where
  by : (b : Bool) → list_all p xs ≡ b → list_all p xs ≡ false
  by true h = let whole : prefix_len p xs ≡ length xs = sym (ap (prefix_len p) (append-nil xs)) ∙ prefix_len-all p xs [] h refl in absurd (omega (arith, whole))
  by false h = h

-- what follows the digits that a text begins with begins with none
pub prefix_len-behind : {X : Type 0} (p : X → Bool) (xs : List X) → prefix_len p (drop (prefix_len p xs) xs) ≡ 0
prefix_len-behind p [] = refl
prefix_len-behind p (x ∷ xs) = by_test (p x) refl (prefix_len-behind p xs) where
  by_test : (b : Bool) → p x ≡ b → prefix_len p (drop (prefix_len p xs) xs) ≡ 0 → prefix_len p (drop (prefix_len p (x ∷ xs)) (x ∷ xs)) ≡ 0
  by_test true e rest = simp (e, one-add) rest
  by_test false e rest = simp e

-- the last digits are digits
pub all_digits-last : (count n : ℕ) → all_digits (last_digits count n) ≡ true
all_digits-last zero n = refl
all_digits-last (suc count) n =
    let below = mod_below n 10 (omega arith) in
    let low : nat_le 48 (48 + n % 10) ≡ true = le-leb _ _ (omega arith) in
    let high : nat_le (48 + n % 10) 57 ≡ true = le-leb _ _ (omega arith) in
    rw (list_all-append is_ascii_digit (last_digits count (n / 10)) ((48 + n % 10) ∷ []), all_digits-last count (n / 10)) (simp (low, high))

-- and write the number's rest by the power of ten
pub digits_value-last : (count n : ℕ) → digits_value 10 (last_digits count n) ≡ n % 10 ^ count
digits_value-last zero n = let rest = mod_below n 1 (omega arith) in omega arith
digits_value-last (suc count) n =
    let below = mod_below n 10 (omega arith) in
    let digit : is_ascii_digit (48 + n % 10) ≡ true = and_from _ _ (le-leb 48 (48 + n % 10) (omega arith)) (le-leb (48 + n % 10) 57 (omega arith)) in
    let value = (digit_value_is (48 + n % 10) digit).2 in
    let ten : 0 < 10 = omega arith in
    let power : 0 < 10 ^ count = omega (arith, one-le-pow count 10 ten) in
    rw (digits_value_push 10 (last_digits count (n / 10)) (48 + n % 10), digits_value-last count (n / 10), pow-suc, mod-mul n power ten) (omega (arith, value))

-- the decimal of a number of powers of ten and what is below one: the number's, and the last digits
pub decimal_joined : (count whole n : ℕ) → 0 < whole → whole * 10 ^ count + n % 10 ^ count < 10 ^ 64 → decimal (whole * 10 ^ count + n % 10 ^ count) ≡ decimal whole ++ last_digits count n
decimal_joined zero whole n some h =
    let rest = mod_below n 1 (omega arith) in
    let same : whole * 10 ^ 0 + n % 10 ^ 0 ≡ whole = omega arith in
    rw (same, append-nil (decimal whole)) refl
decimal_joined (suc count) whole n some h =
    let ten : 0 < 10 = omega arith in
    let power : 0 < 10 ^ count = omega (arith, one-le-pow count 10 ten) in
    let below = mod_below (n / 10) (10 ^ count) power in
    let digit = mod_below n 10 ten in
    let grows : whole ≤ whole * 10 ^ count = le-mul_of_pos_right whole power in
    let parts : whole * 10 ^ suc count + n % 10 ^ suc count ≡ whole * 10 ^ count * 10 + (n / 10 % 10 ^ count * 10 + n % 10) = rw (pow-suc, mod-mul n power ten) (omega arith) in
    let front : (whole * 10 ^ count * 10 + (n / 10 % 10 ^ count * 10 + n % 10)) / 10 ≡ whole * 10 ^ count + n / 10 % 10 ^ count = omega arith in
    let last : (whole * 10 ^ count * 10 + (n / 10 % 10 ^ count * 10 + n % 10)) % 10 ≡ n % 10 = omega arith in
    let step = decimal_step_wide (whole * 10 ^ count * 10 + (n / 10 % 10 ^ count * 10 + n % 10)) (omega arith) (omega (arith, parts, h)) in
    rw (parts, step, front, last, decimal_joined count whole (n / 10) some (omega (arith, parts, h))) (append_assoc (decimal whole) (last_digits count (n / 10)) ((48 + n % 10) ∷ []))

-- the decimal of a power of ten and what is below it: a one, and the last digits
pub decimal_marked : (count n : ℕ) → count ≤ 18 → decimal (10 ^ count + n % 10 ^ count) ≡ 49 ∷ last_digits count n
decimal_marked count n h =
    let ten : 0 < 10 = omega arith in
    let few : 10 ^ count ≤ 10 ^ 18 = pow-le-pow_right ten h in
    let below = mod_below n (10 ^ count) (omega (arith, one-le-pow count 10 ten)) in
    let same : 1 * 10 ^ count + n % 10 ^ count ≡ 10 ^ count + n % 10 ^ count = omega arith in
    rw (← same, decimal_joined count 1 n (omega arith) (omega arith), decimal_digit 1 (omega arith)) refl

-- ten times a number
pub decimal_ten : (n : ℕ) → 0 < n → n < 10 ^ 18 → decimal (n * 10) ≡ decimal n ++ 48 ∷ []
decimal_ten n some few =
    let front : n * 10 / 10 ≡ n = omega arith in
    let last : n * 10 % 10 ≡ 0 = omega arith in
    rw (decimal_step_wide (n * 10) (omega arith) (omega arith), front, last) refl

-- ten times a whole part, before its fraction: a zero between their digits
pub decimal_parted : (places size power : ℕ) → power ≡ 10 ^ places → power ≤ size → size < 10 ^ 18 → decimal ((size - size % power) * 10 + size % power) ≡ decimal (size / 10 ^ places) ++ 48 ∷ last_digits places size
decimal_parted places size power e h near =
    let ten : 0 < 10 = omega arith in
    let positive : 0 < 10 ^ places = omega (arith, one-le-pow places 10 ten) in
    let all = div-add-mod' size (10 ^ places) in
    let below = mod_below size (10 ^ places) positive in
    let some : 0 < size / 10 ^ places = elim (eq-zero-or-pos (size / 10 ^ places)) [ inl z ↦ absurd (omega (arith, all, below, ap (λ n. n * 10 ^ places) z, h, e)) | inr g ↦ g ] in
    let few : size / 10 ^ places < 10 ^ 18 = omega (arith, div-le_self size (10 ^ places), near) in
    let same : (size - size % 10 ^ places) * 10 + size % 10 ^ places ≡ size / 10 ^ places * 10 * 10 ^ places + size % 10 ^ places = omega (arith, all) in
    rw (e, same, decimal_joined places (size / 10 ^ places * 10) size (omega (arith, some)) (omega (arith, all, below, near)), decimal_ten (size / 10 ^ places) some few) (append_assoc (decimal (size / 10 ^ places)) (48 ∷ []) (last_digits places size))

-- ten times a power of ten, and a number below the power: a one and a zero before its digits
pub decimal_below : (places size power : ℕ) → places ≤ 18 → power ≡ 10 ^ places → size < power → decimal (power * 10 + size) ≡ 49 ∷ 48 ∷ last_digits places size
decimal_below places size power h e less =
    let ten : 0 < 10 = omega arith in
    let few : 10 ^ places ≤ 10 ^ 18 = pow-le-pow_right ten h in
    let small : size < 10 ^ places = omega (arith, e, less) in
    let rest : size % 10 ^ places ≡ size = mod-eq_of_lt small in
    let same : power * 10 + size ≡ 10 * 10 ^ places + size % 10 ^ places = omega (arith, rest, e) in
    let text : decimal 10 ≡ 49 ∷ 48 ∷ [] = decimal_ten 1 (omega arith) (omega arith) ∙ ap (λ t. t ++ 48 ∷ []) (decimal_digit 1 (omega arith)) in
    rw (same, decimal_joined places 10 size ten (omega (arith, rest, few, small)), text) refl

-- a byte behind others is put in place of another
pub set_behind : {X : Type 0} (xs ys : List X) (x y : X) → set (xs ++ x ∷ ys) (length xs) y ≡ xs ++ y ∷ ys
set_behind [] ys x y = refl
set_behind (z ∷ xs) ys x y = ap (λ t. z ∷ t) (set_behind xs ys x y)

-- the same of a number's rest by the power
pub decimal_of_part : (count part number power : ℕ) → count ≤ 18 → power ≡ 10 ^ count → number % 10 ^ count ≡ part → decimal (power + part) ≡ 49 ∷ last_digits count number
decimal_of_part count part number power few e h = rw (e, ← h) (decimal_marked count number few)

-- it has a digit more than the power has places
pub length-decimal_of_part : (count part power : ℕ) → count ≤ 18 → power ≡ 10 ^ count → part < 10 ^ count → length (decimal (power + part)) ≡ count + 1
length-decimal_of_part count part power few e below =
    rw (decimal_of_part count part part power few e (mod-eq_of_lt below)) (omega (arith, length-last_digits count part))

-- what stands behind an element
pub drop_behind : {X : Type 0} (xs ys : List X) (x : X) (i : ℕ) → drop i xs ≡ x ∷ ys → drop (i + 1) xs ≡ ys
drop_behind xs ys x i h = rw (← drop-drop 1 i xs, h) refl

-- a number of 128 bits has at most 39 digits
pub length_wide : (n : ℕ) → n < 2 ^ 128 → length (decimal n) ≤ 39
length_wide n h = length-decimal-le_wide 39 n (omega arith) (omega arith) (omega arith)

-- and one more than its tenth
pub length_step_wide : (n : ℕ) → 10 ≤ n → n < 2 ^ 128 → length (decimal n) ≡ length (decimal (n / 10)) + 1
length_step_wide n low high = ap length (decimal_step_wide n low (omega arith)) ∙ length-append _ _

-- digits behind those of a number shift it
digits_value_after-shifts : (n : ℕ) (digits : List ℕ) → digits_value_after 10 n digits ≡ n * 10 ^ length digits + digits_value 10 digits
digits_value_after-shifts n [] = omega arith
digits_value_after-shifts n (c ∷ digits) =
    omega (arith, ap (λ x. n * x) (pow-suc 10 (length digits)), digits_value_after-shifts (n * 10 + digit_value c) digits, digits_value_after-shifts (0 * 10 + digit_value c) digits)

digits_value_after-append : (n : ℕ) (digits more : List ℕ) → digits_value_after 10 n (digits ++ more) ≡ digits_value_after 10 (digits_value_after 10 n digits) more
digits_value_after-append n [] more = refl
digits_value_after-append n (c ∷ digits) more = digits_value_after-append (n * 10 + digit_value c) digits more

-- the digits of a whole part and of a fraction, read together
pub digits_value-append : (digits more : List ℕ) → digits_value 10 (digits ++ more) ≡ digits_value 10 digits * 10 ^ length more + digits_value 10 more
digits_value-append digits more = digits_value_after-append 0 digits more ∙ digits_value_after-shifts (digits_value 10 digits) more

-- and in units
pub digits_value_units : (digits fraction : List ℕ) (places : ℕ) → length fraction ≤ places
    → digits_value 10 (digits ++ fraction) * 10 ^ (places - length fraction) ≡ digits_value 10 digits * 10 ^ places + digits_value 10 fraction * 10 ^ (places - length fraction)
digits_value_units digits fraction places few =
    let split : 10 ^ length fraction * 10 ^ (places - length fraction) ≡ 10 ^ places = sym (pow-add 10 (length fraction) (places - length fraction)) ∙ ap (λ n. 10 ^ n) (omega arith) in
    omega (arith, ap (λ n. n * 10 ^ (places - length fraction)) (digits_value-append digits fraction), ap (λ n. digits_value 10 digits * n) split)
