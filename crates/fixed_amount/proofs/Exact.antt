-- Decimal text with exactly so many places is one text.
use Rattle.std.proofs.Common.{◌≡◌, ◌≢◌, ℕ, zero, suc, ◌+◌, ◌-◌, ◌*◌, ◌/◌, ◌%◌, ◌^◌, ◌<◌, ◌≤◌, ℤ, pos, negsuc, Bool, true, false, List, [], ◌∷◌, ◌++◌, length, get_or, refl, sym, ap, subst, ◌∙◌, arith, inl, inr, ◌↔◌, unsigned_abs, decimal, length-append}
use Rattle.std.specs.Char.{digit_value}
use Rattle.std.specs.Fmt.{sign_text}
use Rattle.std.specs.Int.{is_negative}
use Rattle.std.specs.Str.Parse.{AllDigits, digits_value, digits_value_after}
use Rattle.std.proofs.lemmas.Bool.{cases_lt, true≢false}
use Rattle.std.proofs.lemmas.Fmt.{decimal_by_steps_wide, decimal_digit}
use Rattle.std.proofs.lemmas.Int.{ints}
use Rattle.std.proofs.lemmas.Int.Digits.{digits_value-lt}
use Rattle.std.proofs.lemmas.Str.{digit_value_digit}
use Rattle.std.proofs.lemmas.Str.Parse.{digit_from_value}
use Rattle.std.proofs.Math.ListN.{get_or-append}
use Rattle.std.proofs.Math.Nat.{mul-le-mul_right, pow-zero, pow-suc, pow-le-pow_right, div-le_self}
use Rattle.fixed_amount.specs.Decimal.{IsExactDecimal, point_text, signed, last_digits, decimal_text}
use Rattle.fixed_amount.proofs.Digits.{length-last_digits}
use Rattle.fixed_amount.proofs.Printed.{own, printed_shape, printed_value}

-- digits that follow those of n
value_after : (n : ℕ) (ds : List ℕ) → digits_value_after 10 n ds ≡ n * 10 ^ length ds + digits_value 10 ds
value_after n [] = omega (arith, ap (λ x. n * x) (pow-zero 10))
value_after n (c ∷ cs) =
    let here = value_after (n * 10 + digit_value c) cs in
    let first = value_after (0 * 10 + digit_value c) cs in
    omega (arith, here, first, ap (λ x. n * x) (pow-suc 10 (length cs)))

-- equal sums of parts and a rest have equal parts
same_parts : (a b p u v : ℕ) → u < p → v < p → a * p + u ≡ b * p + v → (a ≡ b) × (u ≡ v)
same_parts a b p u v hu hv is = elim (cases_lt a b) [
  | inl less ↦ absurd (omega (arith, mul-le-mul_right {m = suc a} {n = b} p less))
  | inr more ↦ elim (cases_lt b a) [
    | inl less ↦ absurd (omega (arith, mul-le-mul_right {m = suc b} {n = a} p less))
    | inr same ↦ (let e : a ≡ b = omega arith in (e, omega (arith, ap (λ x. x * p) e)))
  ]
]

-- as many digits of the same value are the same
same_digits : (xs ys : List ℕ) → AllDigits 10 xs → AllDigits 10 ys → length xs ≡ length ys → digits_value 10 xs ≡ digits_value 10 ys → xs ≡ ys
same_digits [] [] dx dy size value = refl
same_digits [] (y ∷ ys) dx dy size value = absurd (omega arith)
same_digits (x ∷ xs) [] dx dy size value = absurd (omega arith)
same_digits (x ∷ xs) (y ∷ ys) dx dy size value =
    let long : length xs ≡ length ys = omega arith in
    let power = ap (λ n. digit_value y * 10 ^ n) long in
    let first = value_after (0 * 10 + digit_value x) xs in
    let other = value_after (0 * 10 + digit_value y) ys in
    let low = digits_value-lt 10 xs dx.1 in
    let high : digits_value 10 ys < 10 ^ length xs = rw long (digits_value-lt 10 ys dy.1) in
    let parts = same_parts (digit_value x) (digit_value y) (10 ^ length xs) (digits_value 10 xs) (digits_value 10 ys) low high (omega (arith, first, other, power)) in
    let code = digit_value_digit x (digit_from_value x dx.0) in
    let code_y = digit_value_digit y (digit_from_value y dy.0) in
    let front : x ≡ y = omega (arith, parts.0, code, code_y, digit_from_value x dx.0, digit_from_value y dy.0) in
    let rest = same_digits xs ys dx.1 dy.1 long parts.1 in
    ap (λ c. c ∷ xs) front ∙ ap (λ cs. y ∷ cs) rest

-- fewer digits write less than more without a surplus zero
fewer_is_less : (xs ys : List ℕ) → AllDigits 10 xs → AllDigits 10 ys → (get_or ys 0 0 ≡ 48 → length ys ≡ 1) → 0 < length xs → length xs < length ys → digits_value 10 xs < digits_value 10 ys
fewer_is_less xs [] dx dy plain some less = absurd (omega arith)
fewer_is_less xs (y ∷ ys) dx dy plain some less =
    let no : y ≢ 48 = λ e. omega (arith, plain e) in
    let range = digit_from_value y dy.0 in
    let first : 1 ≤ digit_value y = omega (arith, no, range, digit_value_digit y range) in
    let ten : 0 < 10 = omega arith in
    let short : length xs ≤ length ys = omega arith in
    let value = value_after (0 * 10 + digit_value y) ys in
    let up = mul-le-mul_right {m = 1} {n = digit_value y} (10 ^ length ys) first in
    omega (arith, digits_value-lt 10 xs dx, pow-le-pow_right ten short, value, up)

-- whole digits of one value without surplus zeros are the same
same_whole : (xs ys : List ℕ) → AllDigits 10 xs → AllDigits 10 ys → (get_or xs 0 0 ≡ 48 → length xs ≡ 1) → (get_or ys 0 0 ≡ 48 → length ys ≡ 1) → 0 < length xs → 0 < length ys → digits_value 10 xs ≡ digits_value 10 ys → xs ≡ ys
same_whole xs ys dx dy px py sx sy value = elim (cases_lt (length xs) (length ys)) [
  | inl less ↦ absurd (omega (arith, fewer_is_less xs ys dx dy py sx less))
  | inr more ↦ elim (cases_lt (length ys) (length xs)) [
    | inl less ↦ absurd (omega (arith, fewer_is_less ys xs dy dx px sy less))
    | inr same ↦ same_digits xs ys dx dy (omega arith) value
  ]
]

-- a number has one sign and one size, where no sign stands before zero
same_size : (p q : Bool) (a b : ℕ) → (p ≡ true → signed p a ≢ pos 0) → (q ≡ true → signed q b ≢ pos 0) → signed p a ≡ signed q b → (p ≡ q) × (a ≡ b)
same_size true true a b hp hq is = (refl, omega (arith, ints))
same_size false false a b hp hq is = (refl, omega (arith, ints))
same_size true false a b hp hq is = absurd (hp refl (omega (arith, ints)))
same_size false true a b hp hq is = absurd (hq refl (omega (arith, ints)))

-- the size of an exact decimal
size_is : (whole fraction : List ℕ) (places : ℕ) → length fraction ≡ places → digits_value 10 whole * 10 ^ places + digits_value 10 fraction * 10 ^ (places - length fraction) ≡ digits_value 10 whole * 10 ^ places + digits_value 10 fraction
size_is whole fraction places exact =
    let none : places - length fraction ≡ 0 = omega arith in
    rw (none, pow-zero 10) (omega arith)

-- two exact decimals of one number are one text
one_text : (t u : List ℕ) (units : ℤ) (places : ℕ) → IsExactDecimal t units places → IsExactDecimal u units places → t ≡ u
one_text t u units places a b =
    let sizes = same_size a.negative b.negative _ _
    (λ n. subst (λ (z : ℤ). z ≢ pos 0) a.value (a.no_signed_zero n))
    (λ n. subst (λ (z : ℤ). z ≢ pos 0) b.value (b.no_signed_zero n))
    (sym a.value ∙ b.value) in
    let wa = own.to a.whole a.shape.whole_digits in
    let wb = own.to b.whole b.shape.whole_digits in
    let fa = own.to a.fraction a.shape.fraction_digits in
    let fb = own.to b.fraction b.shape.fraction_digits in
    let low : digits_value 10 a.fraction < 10 ^ places = rw (← a.exact) (digits_value-lt 10 a.fraction fa) in
    let high : digits_value 10 b.fraction < 10 ^ places = rw (← b.exact) (digits_value-lt 10 b.fraction fb) in
    let parts = same_parts (digits_value 10 a.whole) (digits_value 10 b.whole) (10 ^ places) (digits_value 10 a.fraction) (digits_value 10 b.fraction) low high
    (sym (size_is a.whole a.fraction places a.exact) ∙ sizes.1 ∙ size_is b.whole b.fraction places b.exact) in
    let whole = same_whole a.whole b.whole wa wb a.no_surplus_zero b.no_surplus_zero a.shape.nonempty b.shape.nonempty parts.0 in
    let fraction = same_digits a.fraction b.fraction fa fb (a.exact ∙ sym b.exact) parts.1 in
    a.shape.written ∙ ap (λ (s : Bool). sign_text s ++ (a.whole ++ point_text a.fraction)) sizes.0
    ∙ ap (λ (w : List ℕ). sign_text b.negative ++ (w ++ point_text a.fraction)) whole
    ∙ ap (λ (f : List ℕ). sign_text b.negative ++ (b.whole ++ point_text f)) fraction ∙ sym b.shape.written

-- std's numerals have no surplus zero
decimal_plain : (n : ℕ) → n < 10 ^ 64 → get_or (decimal n) 0 0 ≡ 48 → length (decimal n) ≡ 1
decimal_plain n small = elim (cases_lt 0 n) [
  | inl some ↦ (λ zero_first. absurd (omega (arith, first.1 some)))
  | inr none ↦ (λ _. let e : n ≡ 0 = omega arith in rw (e, decimal_digit 0 (omega arith)) refl)
]
  where
    first : (0 < length (decimal n)) × (0 < n → 48 < get_or (decimal n) 0 0)
    first = decimal_by_steps_wide (λ m ds. (0 < length ds) × (0 < m → 48 < get_or ds 0 0)) (λ m l. (omega arith, λ a. omega arith))
        (λ m ds l h. (omega (arith, length-append ds ((48 + m % 10) ∷ [])), λ a. omega (arith, get_or-append ds ((48 + m % 10) ∷ []) 0 0 h.0, h.1 (omega arith)))) n small

-- a sign stands before numbers below zero alone
signed_below : (units : ℤ) → is_negative units ≡ true → units ≢ pos 0
signed_below (pos zero) h e = true≢false (sym h)
signed_below (pos (suc n)) h e = omega (arith, ints)
signed_below (negsuc n) h e = omega (arith, ints)

-- what is printed is an exact decimal of the number
printed_exact : (units : ℤ) (places : ℕ) → unsigned_abs units < 10 ^ 64 → IsExactDecimal (decimal_text units places) units places
printed_exact units places small = record {
  negative = is_negative units;
  whole = decimal (unsigned_abs units / 10 ^ places);
  fraction = last_digits places (unsigned_abs units);
  shape = printed_shape units places small;
  exact = length-last_digits places (unsigned_abs units);
  no_surplus_zero = decimal_plain (unsigned_abs units / 10 ^ places) (omega (arith, div-le_self (unsigned_abs units) (10 ^ places)));
  no_signed_zero = signed_below units;
  value = printed_value units places small;
}

-- and no other text is
pub exact_law : (text : List ℕ) (units : ℤ) (places : ℕ) → unsigned_abs units ≤ 2 ^ 127 → (text ≡ decimal_text units places) ↔ IsExactDecimal text units places
exact_law text units places h =
    let printed = printed_exact units places (omega arith) in
    (λ is. subst (λ (t : List ℕ). IsExactDecimal t units places) (sym is) printed, λ exact. one_text text (decimal_text units places) units places exact printed)
