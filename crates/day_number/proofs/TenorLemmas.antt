-- A tenor is read exactly from its count without leading zeros and its unit's letter.
use Rattle.std.proofs.Common.{◌≡◌, ℕ, ◌+◌, ◌-◌, ◌^◌, ◌<◌, ◌≤◌, true, false, not, ◌&&◌, cond, nat_le, nat_eq, List, [], ◌∷◌, ◌++◌, length, take, get_or, slice_index, refl, sym, ap, subst, ◌∙◌, arith, Option, Some, None, ℤ, pos, unsigned_abs}
use Rattle.std.proofs.lemmas.Bool.Decides.{nat_tests}
use Rattle.std.proofs.lemmas.Option.{cond_some}
use Rattle.std.proofs.lemmas.List.{take_more, take_all, length-take, length-append}
use Rattle.std.proofs.Math.Seq.{take-append_seam, get_or-append_seam}
use Rattle.std.proofs.lemmas.Fmt.{decimal-digits_value, digits_decimal, digits_value-decimal, first_decimal, decimal_nonempty, length-decimal-le}
use Rattle.std.specs.Fmt.{decimal}
use Rattle.std.specs.Int.{IsInRange, is_in_range}
use Rattle.jiff_core.proofs.SignedLemmas.{signed_arith, unsigned_abs-parts, one_part}
use Rattle.day_number.specs.declared.tenors.Unit.{Unit as TimeUnit}
use Rattle.day_number.specs.declared.tenors.Unit.TheVariants.{Days, Weeks, Months, Years}
use Rattle.day_number.specs.declared.tenors.Tenor.{Tenor}
use Rattle.day_number.specs.Tenor.{IsTenor, unit_letter, unit_of_letter, unit_limit, tenor_text}
use Rattle.day_number.specs.Text.{number_of_text, count_of_text, tenor_of, tenor_of_text, ReadsTenors}
use Rattle.day_number.proofs.DigitLemmas.{numerals, some_number}
use Rattle.day_number.proofs.TextLemmas.{both_true, passed, in_range_true, true_in_range, written}

limit_small : (unit : TimeUnit) → unit_limit unit ≤ 22_000
limit_small Days = omega arith
limit_small Weeks = omega arith
limit_small Months = omega arith
limit_small Years = omega arith

unit_of_letter-unit_letter : (unit : TimeUnit) → unit_of_letter (unit_letter unit) ≡ Some unit
unit_of_letter-unit_letter Days = refl
unit_of_letter-unit_letter Weeks = refl
unit_of_letter-unit_letter Months = refl
unit_of_letter-unit_letter Years = refl

-- the first of two outcomes by a test on numbers, or what follows
letter_case : (letter code : ℕ) (unit found : TimeUnit) (rest : Option TimeUnit) → unit_letter unit ≡ code → cond (nat_eq letter code) (Some unit) rest ≡ Some found → (rest ≡ Some found → unit_letter found ≡ letter) → unit_letter found ≡ letter
letter_case letter code unit found rest own h other =
    elim (nat_eq letter code) as (λ t. nat_eq letter code ≡ t → cond t (Some unit) rest ≡ Some found → unit_letter found ≡ letter) [
      | true ↦ λ test here.
          let same : letter ≡ code = grind (arith, nat_tests) in
          let one : unit ≡ found = cc in
          ap unit_letter (sym one) ∙ own ∙ sym same
      | false ↦ λ test here. other here
    ] refl h

unit_letter-unit_of_letter : (letter : ℕ) (unit : TimeUnit) → unit_of_letter letter ≡ Some unit → unit_letter unit ≡ letter
unit_letter-unit_of_letter letter unit h =
    letter_case letter 68 Days unit _ refl h
    (λ h1. letter_case letter 87 Weeks unit _ refl h1
    (λ h2. letter_case letter 77 Months unit _ refl h2
    (λ h3. letter_case letter 89 Years unit None refl h3 (λ h4. absurd cc))))

tenor_some : (unit : Option TimeUnit) (count : Option ℕ) (tenor : Tenor) → tenor_of unit count ≡ Some tenor → (u : TimeUnit) × (n : ℕ) × (unit ≡ Some u) × (count ≡ Some n) × IsInRange 1 (unit_limit u) n × (tenor ≡ record { count = pos n; unit = u })
tenor_some (Some u) (Some n) tenor h =
    let picked = cond_some (is_in_range 1 (unit_limit u) n) (record { count = pos n; unit = u }) tenor h in
    (u, n, refl, refl, in_range_true 1 (unit_limit u) n picked.0, sym picked.1)
tenor_some (Some u) None tenor h = absurd cc
tenor_some None count tenor h = absurd cc

-- digits without a leading zero are the decimal form of their number
count_written : (digits : List ℕ) (n : ℕ) → count_of_text digits ≡ Some n → n < 2 ^ 64 → (0 < length digits) × (decimal n ≡ digits)
count_written digits n h small =
    let short = nat_le (length digits) 5 in
    let zero_first = nat_eq (slice_index digits 0) 48 in
    let picked = passed (short && not zero_first) (number_of_text digits) n h in
    let two = both_true short (not zero_first) picked.0 in
    let first = two.1 in
    let w = written digits n picked.1 in
    let lead : get_or digits 0 0 ≡ 48 → length digits ≡ 1 = λ e. absurd (grind (arith, nat_tests)) in
    (w.0, ap decimal (sym w.2) ∙ decimal-digits_value numerals digits w.1 w.0 lead (omega (arith, w.2)))

-- and the decimal form of a number reads as it
written_count : (n : ℕ) → 1 ≤ n → n ≤ 22_000 → count_of_text (decimal n) ≡ Some n
written_count n low high =
    let wide : n < 2 ^ 64 = omega arith in
    let length_is = length-decimal-le 5 n (omega arith) (omega arith) wide in
    let first = first_decimal n low wide in
    let short : nat_le (length (decimal n)) 5 ≡ true = grind (arith, nat_tests) in
    let other : nat_eq (slice_index (decimal n) 0) 48 ≡ false = grind (arith, nat_tests) in
    let number = some_number (decimal n) (decimal_nonempty n wide) (digits_decimal numerals n wide) ∙ ap (λ (k : ℕ). Some k) (digits_value-decimal numerals n wide) in
    rw (short, other) number

-- a text is all but its last byte, and that
last_split : (text : List ℕ) → 0 < length text → text ≡ take (length text - 1) text ++ slice_index text (length text - 1) ∷ []
last_split text h =
    let back : length text - 1 + 1 ≡ length text = omega arith in
    let more = take_more text (length text - 1) 0 (omega arith) in
    sym (take_all (length text) text (omega arith)) ∙ ap (λ n. take n text) (sym back) ∙ more

read_tenor_text : (text : List ℕ) (tenor : Tenor) → tenor_of_text text ≡ Some tenor → IsTenor tenor × (text ≡ tenor_text tenor)
unfolding tenor_of_text
read_tenor_text text tenor h =
    let digits = take (length text - 1) text in
    let letter = slice_index text (length text - 1) in
    let it = tenor_some (unit_of_letter letter) (count_of_text digits) tenor h in
    let small = limit_small it.0 in
    let range = it.4 in
    let count = count_written digits it.1 it.3 (omega arith) in
    let own = unit_letter-unit_of_letter letter it.0 it.2 in
    let long : 0 < length text = omega (arith, count.0, length-take (length text - 1) text) in
    let whole = last_split text long ∙ ap (λ d. d ++ letter ∷ []) (sym count.1) ∙ ap (λ l. decimal it.1 ++ l ∷ []) (sym own) in
    let P : Tenor → Type 0 = λ t. IsTenor t × (text ≡ tenor_text t) in
    subst P (sym it.5) ((omega (arith, signed_arith), omega (arith, signed_arith)), whole)

tenor_text_read : (tenor : Tenor) → IsTenor tenor → tenor_of_text (tenor_text tenor) ≡ Some tenor
unfolding tenor_of_text
tenor_text_read tenor h =
    let n = unsigned_abs tenor.count in
    let ds = decimal n in
    let letter = unit_letter tenor.unit in
    let parts = unsigned_abs-parts tenor.count in
    let part = one_part tenor.count in
    let small = limit_small tenor.unit in
    let same : tenor.count ≡ pos n = omega (arith, signed_arith) in
    let range : IsInRange 1 (unit_limit tenor.unit) n = (omega (arith, signed_arith), omega (arith, signed_arith)) in
    let back : length (ds ++ letter ∷ []) - 1 ≡ length ds = omega (arith, length-append ds (letter ∷ [])) in
    let text = ds ++ letter ∷ [] in
    let unit = ap (λ (k : ℕ). unit_of_letter (slice_index text k)) back ∙ ap unit_of_letter (get_or-append_seam ds letter [] 0) ∙ unit_of_letter-unit_letter tenor.unit in
    let count = ap (λ (k : ℕ). count_of_text (take k text)) back ∙ ap count_of_text (take-append_seam ds (letter ∷ [])) ∙ written_count n range.0 (omega arith) in
    let made : tenor_of (Some tenor.unit) (Some n) ≡ Some (record { count = pos n; unit = tenor.unit }) = rw (true_in_range 1 (unit_limit tenor.unit) n range) refl in
    ap (λ (u : Option TimeUnit). tenor_of u (count_of_text (take (length text - 1) text))) unit
    ∙ ap (λ (c : Option ℕ). tenor_of (Some tenor.unit) c) count ∙ made
    ∙ ap (λ (z : ℤ). let it : Tenor = record { count = z; unit = tenor.unit } in Some it) (sym same)

pub reads_tenors : ReadsTenors
reads_tenors text tenor =
    (read_tenor_text text tenor, λ h. ap tenor_of_text h.1 ∙ tenor_text_read tenor h.0)
