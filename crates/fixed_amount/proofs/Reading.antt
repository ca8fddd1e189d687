-- What a text is that is read as a decimal, and what it is where it is refused.
use Rattle.std.proofs.Common.{◌≡◌, ◌≢◌, ℕ, suc, ◌+◌, ◌^◌, ◌<◌, ◌≤◌, ◌==◌, pos, neg_ℤ, ◌≤ℤ◌, ◌<ℤ◌, Bool, true, false, ◌&&◌, List, [], ◌∷◌, ◌++◌, length, take, drop, refl, sym, ap, subst, ◌∙◌, arith, Ok, Err, nat_lt, inl, inr, ◌⊎◌, append_assoc, length-append}
use Rattle.std.specs.Char.{is_ascii_digit}
use Rattle.std.specs.Fmt.{sign_text}
use Rattle.std.proofs.lemmas.Bool.{true≢false, and_parts, and_from, and_right, cases_eq, cases_lt, lt-ltb, le-ltb, ne_eqb}
use Rattle.std.proofs.lemmas.List.{take_at, drop_at, append-nil, take-append-drop, take_all, length_push}
use Rattle.std.proofs.lemmas.List.Folds.{list_all-append}
use Rattle.fixed_amount.specs.declared.decimal.DecimalFault.TheVariants.{Empty, Char, Places, Range}
use Rattle.fixed_amount.specs.Decimal.{all_digits, digit_count, IsDecimal, IsDecimalText, IsDecimalStart, IsFirstFault, units_of, in_range, in_units, fraction_value, point_value, whole_value, decimal_value}
use Rattle.fixed_amount.proofs.Digits.{digit_value_is, list_all-front, prefix_len-all, prefix_len-behind}
use Rattle.fixed_amount.proofs.Ranges.{in_range_fits, in_range_out, range_cases}

-- a text that begins with no digit
abbrev EndsDigits : List ℕ → Type 0
EndsDigits rest = digit_count rest ≡ 0

-- the first byte of what begins with no digit is none
no_digit : (c : ℕ) (r : List ℕ) → EndsDigits (c ∷ r) → is_ascii_digit c ≡ false
no_digit c r h = by_test (is_ascii_digit c) refl where
  by_test : (b : Bool) → is_ascii_digit c ≡ b → is_ascii_digit c ≡ false
  by_test true e = absurd (let one : 1 + digit_count r ≡ 0 = simp e at h in omega arith)
  by_test false e = e

-- and then it begins with no digit whatever follows it
ends_at : (c : ℕ) (r : List ℕ) → is_ascii_digit c ≡ false → EndsDigits (c ∷ r)
ends_at c r e = simp e

-- what stands behind the sign is read by the sign
sign_read : (negative : Bool) (c : ℕ) (r : List ℕ) (places : ℕ) → (negative ≡ false → c ≢ 45) → decimal_value (sign_text negative ++ (c ∷ r)) places ≡ whole_value (length (sign_text negative)) negative (c ∷ r) places
unfolding decimal_value
sign_read true c r places plain = refl
sign_read false c r places plain = let e : (c == 45) ≡ false = ne_eqb c 45 (plain refl) in simp e

-- a digit is no sign
digit_is_no_sign : (d : ℕ) → is_ascii_digit d ≡ true → d ≢ 45
digit_is_no_sign d h e = omega (arith, (digit_value_is d h).0)

-- what begins with a whole part is read on behind it
whole_step : (at : ℕ) (negative : Bool) (whole rest : List ℕ) (places : ℕ) → 0 < length whole → all_digits whole ≡ true → EndsDigits rest → whole_value at negative (whole ++ rest) places ≡ point_value (at + length whole) negative whole rest places
whole_step at negative whole rest places some digits ends =
    let count : digit_count (whole ++ rest) ≡ length whole = prefix_len-all is_ascii_digit whole rest digits ends in
    let more : (length whole == 0) ≡ false = ne_eqb _ _ (λ e. omega arith) in
    rw (count, more, take_at whole rest (length whole) refl, drop_at whole rest (length whole) refl)

-- so is a whole text behind its sign
whole_read : (negative : Bool) (d : ℕ) (ds rest : List ℕ) (places : ℕ) → all_digits (d ∷ ds) ≡ true → EndsDigits rest → decimal_value (sign_text negative ++ ((d ∷ ds) ++ rest)) places ≡ point_value (length (sign_text negative) + length (d ∷ ds)) negative (d ∷ ds) rest places
whole_read negative d ds rest places digits ends =
    sign_read negative d (ds ++ rest) places (λ _. digit_is_no_sign d (and_parts _ _ digits).0)
    ∙ whole_step (length (sign_text negative)) negative (d ∷ ds) rest places (omega arith) digits ends

-- digits behind the point end a decimal
fraction_step : (at : ℕ) (negative : Bool) (whole fraction : List ℕ) (places : ℕ) → 0 < length fraction → all_digits fraction ≡ true → fraction_value at negative whole fraction places ≡ in_units negative whole fraction places
fraction_step at negative whole fraction places some digits =
    let fine : (nat_lt 0 (length fraction) && all_digits fraction) ≡ true = and_from _ _ (lt-ltb 0 (length fraction) some) digits in
    rw fine

-- another byte behind them does not
fraction_stop : (at : ℕ) (negative : Bool) (whole fraction : List ℕ) (c : ℕ) (r : List ℕ) (places : ℕ) → all_digits fraction ≡ true → is_ascii_digit c ≡ false → fraction_value at negative whole (fraction ++ (c ∷ r)) places ≡ Err (Char (at + length fraction))
fraction_stop at negative whole fraction c r places digits bad =
    let not_all : all_digits (fraction ++ (c ∷ r)) ≡ false = rw (list_all-append is_ascii_digit fraction (c ∷ r), digits) (simp bad) in
    let not_fine : (nat_lt 0 (length (fraction ++ (c ∷ r))) && all_digits (fraction ++ (c ∷ r))) ≡ false = and_right _ _ not_all in
    let count : digit_count (fraction ++ (c ∷ r)) ≡ length fraction = prefix_len-all is_ascii_digit fraction (c ∷ r) digits (ends_at c r bad) in
    rw (not_fine, count)

-- a decimal is read by its parts
pub decimal_read : (text : List ℕ) (negative : Bool) (whole fraction : List ℕ) (places : ℕ) → IsDecimal text negative whole fraction → decimal_value text places ≡ in_units negative whole fraction places
decimal_read text negative [] fraction places shape = absurd (omega (arith, shape.nonempty))
decimal_read text negative (d ∷ ds) [] places shape = rw shape.written (whole_read negative d ds [] places shape.whole_digits refl)
decimal_read text negative (d ∷ ds) (f ∷ fs) places shape = rw shape.written
    (whole_read negative d ds (46 ∷ f ∷ fs) places shape.whole_digits refl
    ∙ fraction_step (length (sign_text negative) + length (d ∷ ds) + 1) negative (d ∷ ds) (f ∷ fs) places (omega arith) shape.fraction_digits)

-- what the parts of a decimal give
pub in_units_many : (negative : Bool) (whole fraction : List ℕ) (places : ℕ) → places < length fraction → in_units negative whole fraction places ≡ Err Places
in_units_many negative whole fraction places many = let e : nat_lt places (length fraction) ≡ true = lt-ltb _ _ many in rw e

pub in_units_few : (negative : Bool) (whole fraction : List ℕ) (places : ℕ) → length fraction ≤ places → in_units negative whole fraction places ≡ in_range (units_of negative whole fraction places)
in_units_few negative whole fraction places few = let e : nat_lt places (length fraction) ≡ false = le-ltb _ _ few in rw e

-- the three answers of a decimal, each with what it says of the parts
pub data Answer (negative : Bool) (whole fraction : List ℕ) (places : ℕ) : Type 0 where
  many : places < length fraction → in_units negative whole fraction places ≡ Err Places → Answer negative whole fraction places
  fits : length fraction ≤ places → neg_ℤ (pos (2 ^ 63)) ≤ℤ units_of negative whole fraction places → units_of negative whole fraction places <ℤ pos (2 ^ 63) → in_units negative whole fraction places ≡ Ok (units_of negative whole fraction places) → Answer negative whole fraction places
  far : length fraction ≤ places → (units_of negative whole fraction places <ℤ neg_ℤ (pos (2 ^ 63))) ⊎ (pos (2 ^ 63) ≤ℤ units_of negative whole fraction places) → in_units negative whole fraction places ≡ Err Range → Answer negative whole fraction places

pub answer : (negative : Bool) (whole fraction : List ℕ) (places : ℕ) → Answer negative whole fraction places
answer negative whole fraction places =
    let units = units_of negative whole fraction places in
    elim (cases_lt places (length fraction)) [
      | inl more ↦ many more (in_units_many negative whole fraction places more)
      | inr few ↦ (let is = in_units_few negative whole fraction places few in
          elim (range_cases units) [
            | inl h ↦ fits few h.0 h.1 (is ∙ in_range_fits units h.0 h.1)
            | inr h ↦ far few h (is ∙ in_range_out units h)
          ])
    ]

-- no decimal is refused at a byte
no_char : (text : List ℕ) (places at : ℕ) → IsDecimalText text → decimal_value text places ≡ Err (Char at) → ⊥
no_char text places at is refused =
    let read = decimal_read text is.negative is.whole is.fraction places is.shape in
    elim (answer is.negative is.whole is.fraction places) [
      | many h e ↦ cc
      | fits few low high e ↦ cc
      | far few h e ↦ cc
    ]

-- what a text is, by how it is read
pub data Reading (text : List ℕ) (places : ℕ) : Type 0 where
  empty : text ≡ [] → decimal_value text places ≡ Err Empty → Reading text places
  decimal : (negative : Bool) (whole fraction : List ℕ) → IsDecimal text negative whole fraction → decimal_value text places ≡ in_units negative whole fraction places → Reading text places
  fault : (at : ℕ) → IsFirstFault text at → decimal_value text places ≡ Err (Char at) → Reading text places

-- the front of a text up to and including a byte
take_through : (head : List ℕ) (c : ℕ) (r : List ℕ) → take (length head + 1) (head ++ (c ∷ r)) ≡ head ++ c ∷ []
take_through head c r = let e : head ++ (c ∷ r) ≡ (head ++ c ∷ []) ++ r = sym (append_assoc head (c ∷ []) r) in
    rw e (take_at (head ++ c ∷ []) r (length head + 1) (length_push head c))

-- a byte that is always refused behind a beginning ends every beginning
stopped : (head : List ℕ) (c : ℕ) (r : List ℕ) → ((s : List ℕ) (p : ℕ) → decimal_value (head ++ (c ∷ s)) p ≡ Err (Char (length head))) → IsDecimalStart (take (length head + 1) (head ++ (c ∷ r))) → ⊥
stopped head c r refused start =
    let more = start.more in
    let whole = subst (λ (t : List ℕ). IsDecimalText (t ++ more)) (take_through head c r) start.whole_text in
    no_char ((head ++ c ∷ []) ++ more) 0 (length head) whole (rw (append_assoc head (c ∷ []) more) (refused more 0))

-- a beginning of a decimal after which this byte is always refused
stop : (head : List ℕ) (c : ℕ) (r : List ℕ) (places : ℕ) → IsDecimalStart head → ((s : List ℕ) (p : ℕ) → decimal_value (head ++ (c ∷ s)) p ≡ Err (Char (length head))) → Reading (head ++ (c ∷ r)) places
stop head c r places begins refused =
    let long : length (head ++ (c ∷ r)) ≡ length head + suc (length r) = length-append head (c ∷ r) in
    fault (length head) (record {
      nonempty = omega arith;
      no_decimal = λ is. no_char (head ++ (c ∷ r)) places (length head) is (refused r places);
      before = rw (take_at head (c ∷ r) (length head) refl) begins;
      after = inr (omega arith, stopped head c r refused);
    }) (refused r places)

-- a beginning of a decimal that is none itself
stop_end : (head : List ℕ) (places : ℕ) → 0 < length head → IsDecimalStart head → decimal_value head places ≡ Err (Char (length head)) → Reading head places
stop_end head places some begins refused = fault (length head) (record {
  nonempty = some;
  no_decimal = λ is. no_char head places (length head) is refused;
  before = rw (take_all (length head) head (omega arith)) begins;
  after = inl refl;
}) refused

-- one digit ends a text that wants one
one_digit : (negative : Bool) → IsDecimalStart (sign_text negative)
one_digit negative = record { more = 48 ∷ []; whole_text = record { negative = negative; whole = 48 ∷ []; fraction = []; shape = record { nonempty = omega arith; whole_digits = refl; fraction_digits = refl; written = refl } } }

-- a sign and a whole part
whole_start : (negative : Bool) (whole : List ℕ) → 0 < length whole → all_digits whole ≡ true → IsDecimalStart (sign_text negative ++ whole)
whole_start negative whole some digits = record { more = []; whole_text = record { negative = negative; whole = whole; fraction = []; shape = record { nonempty = some; whole_digits = digits; fraction_digits = refl; written = append_assoc (sign_text negative) whole [] } } }

-- a sign, a whole part, the point and digits or none
fraction_start : (negative : Bool) (whole fraction : List ℕ) → 0 < length whole → all_digits whole ≡ true → all_digits fraction ≡ true → IsDecimalStart (sign_text negative ++ (whole ++ (46 ∷ fraction)))
fraction_start negative whole [] some digits behind = record { more = 48 ∷ []; whole_text = record { negative = negative; whole = whole; fraction = 48 ∷ []; shape = record { nonempty = some; whole_digits = digits; fraction_digits = refl; written = simp append_assoc } } }
fraction_start negative whole (f ∷ fs) some digits behind = record { more = []; whole_text = record { negative = negative; whole = whole; fraction = f ∷ fs; shape = record { nonempty = some; whole_digits = digits; fraction_digits = behind; written = append-nil _ } } }

-- a text of these parts, with more behind it
parts_more : (sign whole fraction more : List ℕ) → (sign ++ (whole ++ (46 ∷ fraction))) ++ more ≡ sign ++ (whole ++ (46 ∷ (fraction ++ more)))
parts_more sign whole fraction more = simp append_assoc

-- and its length
length_parts : (sign whole fraction : List ℕ) → length sign + length whole + 1 + length fraction ≡ length (sign ++ (whole ++ (46 ∷ fraction)))
length_parts sign whole fraction = omega (arith, length-append sign (whole ++ (46 ∷ fraction)), length-append whole (46 ∷ fraction))

-- the last part of a text: digits behind the point, and what follows them
after_point : (negative : Bool) (d : ℕ) (ds fraction rest : List ℕ) (places : ℕ) → all_digits (d ∷ ds) ≡ true → all_digits fraction ≡ true → EndsDigits rest → Reading (sign_text negative ++ ((d ∷ ds) ++ (46 ∷ (fraction ++ rest)))) places
after_point negative d ds [] [] places digits behind ends =
    let head = sign_text negative ++ ((d ∷ ds) ++ (46 ∷ [])) in
    let at : length (sign_text negative) + length (d ∷ ds) + 1 + 0 ≡ length head = length_parts (sign_text negative) (d ∷ ds) [] in
    stop_end head places (omega arith) (fraction_start negative (d ∷ ds) [] (omega arith) digits refl)
    (whole_read negative d ds (46 ∷ []) places digits refl ∙ ap (λ (n : ℕ). Err (Char n)) at)
after_point negative d ds (f ∷ fs) [] places digits behind ends =
    let shape : IsDecimal (sign_text negative ++ ((d ∷ ds) ++ (46 ∷ ((f ∷ fs) ++ [])))) negative (d ∷ ds) (f ∷ fs) = record {
      nonempty = omega arith;
      whole_digits = digits;
      fraction_digits = behind;
      written = rw (append-nil fs);
    } in
    decimal negative (d ∷ ds) (f ∷ fs) shape (decimal_read _ negative (d ∷ ds) (f ∷ fs) places shape)
after_point negative d ds fraction (c ∷ r) places digits behind ends =
    let sign = sign_text negative in
    let bad = no_digit c r ends in
    subst (λ (t : List ℕ). Reading t places) (parts_more sign (d ∷ ds) fraction (c ∷ r))
    (stop (sign ++ ((d ∷ ds) ++ (46 ∷ fraction))) c r places (fraction_start negative (d ∷ ds) fraction (omega arith) digits behind)
    (λ s p. rw (parts_more sign (d ∷ ds) fraction (c ∷ s))
    (whole_read negative d ds (46 ∷ (fraction ++ (c ∷ s))) p digits refl
    ∙ fraction_stop (length sign + length (d ∷ ds) + 1) negative (d ∷ ds) fraction c s p behind bad
    ∙ ap (λ (n : ℕ). Err (Char n)) (length_parts sign (d ∷ ds) fraction))))

-- a text with a whole part, and what follows it
after_whole : (negative : Bool) (d : ℕ) (ds rest : List ℕ) (places : ℕ) → all_digits (d ∷ ds) ≡ true → EndsDigits rest → Reading (sign_text negative ++ ((d ∷ ds) ++ rest)) places
after_whole negative d ds [] places digits ends =
    let shape : IsDecimal (sign_text negative ++ ((d ∷ ds) ++ [])) negative (d ∷ ds) [] = record {
      nonempty = omega arith;
      whole_digits = digits;
      fraction_digits = refl;
      written = refl;
    } in
    decimal negative (d ∷ ds) [] shape (decimal_read _ negative (d ∷ ds) [] places shape)
after_whole negative d ds (c ∷ r) places digits ends =
    let sign = sign_text negative in
    elim (cases_eq c 46) [
      | inl point ↦ subst (λ (x : ℕ). Reading (sign ++ ((d ∷ ds) ++ (x ∷ r))) places) (sym point)
          (subst (λ (t : List ℕ). Reading (sign ++ ((d ∷ ds) ++ (46 ∷ t))) places) (take-append-drop (digit_count r) r)
          (after_point negative d ds (take (digit_count r) r) (drop (digit_count r) r) places digits (list_all-front is_ascii_digit r) (prefix_len-behind is_ascii_digit r)))
      | inr other ↦ subst (λ (t : List ℕ). Reading t places) (append_assoc sign (d ∷ ds) (c ∷ r))
          (stop (sign ++ (d ∷ ds)) c r places (whole_start negative (d ∷ ds) (omega arith) digits)
          (λ s p. rw (append_assoc sign (d ∷ ds) (c ∷ s))
          (whole_read negative d ds (c ∷ s) p digits (ends_at c s (no_digit c r ends))
          ∙ (let no : (c == 46) ≡ false = ne_eqb c 46 other in rw no (ap (λ (n : ℕ). Err (Char n)) (sym (length-append sign (d ∷ ds))))))))
    ]

-- a sign alone, and no byte at all
lone_sign : (places : ℕ) → decimal_value (45 ∷ []) places ≡ Err (Char 1)
unfolding decimal_value
lone_sign places = refl

pub no_text : (places : ℕ) → decimal_value [] places ≡ Err Empty
unfolding decimal_value
no_text places = refl

-- what stands behind the sign: the digits, and what follows them
after_sign : (negative : Bool) (whole rest : List ℕ) (places : ℕ) → all_digits whole ≡ true → EndsDigits rest → (negative ≡ false → 0 < length (whole ++ rest)) → ((c : ℕ) (r : List ℕ) → whole ++ rest ≡ c ∷ r → negative ≡ false → c ≢ 45) → Reading (sign_text negative ++ (whole ++ rest)) places
after_sign negative (d ∷ ds) rest places digits ends some plain = after_whole negative d ds rest places digits ends
after_sign true [] [] places digits ends some plain = stop_end (45 ∷ []) places (omega arith) (one_digit true) (lone_sign places)
after_sign false [] [] places digits ends some plain = absurd (omega (arith, some refl))
after_sign negative [] (c ∷ r) places digits ends some plain =
    let bad = no_digit c r ends in
    stop (sign_text negative) c r places (one_digit negative) (λ s p. sign_read negative c s p (plain c r refl) ∙ simp bad)

-- each text is empty, a decimal or refused at a byte
pub reading : (text : List ℕ) (places : ℕ) → Reading text places
reading [] places = empty refl (no_text places)
reading (b ∷ text) places =
    let body : List ℕ = b ∷ text in
    let whole : take (digit_count body) body ++ drop (digit_count body) body ≡ b ∷ text = take-append-drop (digit_count body) body in
    elim (cases_eq b 45) [
      | inl sign ↦ subst (λ (x : ℕ). Reading (x ∷ text) places) (sym sign)
          (subst (λ (t : List ℕ). Reading (45 ∷ t) places) (take-append-drop (digit_count text) text)
          (after_sign true (take (digit_count text) text) (drop (digit_count text) text) places (list_all-front is_ascii_digit text) (prefix_len-behind is_ascii_digit text)
          (λ no. absurd (true≢false no)) (λ c r e no. absurd (true≢false no))))
      | inr plain ↦ subst (λ (t : List ℕ). Reading t places) whole
          (after_sign false (take (digit_count body) body) (drop (digit_count body) body) places (list_all-front is_ascii_digit body) (prefix_len-behind is_ascii_digit body)
          (λ _. rw whole (omega arith)) (λ c r e _ sign. plain (let first : b ≡ c = cc in cc)))
    ]
