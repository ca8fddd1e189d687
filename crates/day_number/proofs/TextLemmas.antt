-- A day is read exactly from the text that it is printed as.
use Rattle.std.proofs.Common.{◌≡◌, ℕ, suc, ◌+◌, ◌/◌, ◌%◌, ◌<◌, Bool, true, false, ◌&&◌, cond, nat_lt, nat_eq, List, [], ◌∷◌, ◌++◌, length, slice_index, slice_range, refl, sym, ap, subst, ◌∙◌, arith, Option, Some, None, ℤ, pos, unsigned_abs}
use Rattle.std.proofs.lemmas.Bool.Decides.{nat_tests}
use Rattle.std.proofs.lemmas.Option.{cond_some}
use Rattle.std.proofs.lemmas.Str.{digit_value_digit}
use Rattle.std.proofs.lemmas.Str.Parse.{tells_all_ascii_digits}
use Rattle.std.specs.Int.{IsInRange, is_in_range}
use Rattle.std.specs.Str.{all_ascii_digits}
use Rattle.std.specs.Str.Parse.{digits_value}
use Rattle.jiff_core.specs.Calendar.{days_in_month}
use Rattle.jiff_core.proofs.CalendarLemmas.{days_in_month_bounds}
use Rattle.jiff_core.proofs.SignedLemmas.{signed_arith, unsigned_abs-parts, one_part}
use Rattle.day_number.specs.Day.{IsDayNumber, IsCivil, civil_number, CivilDate, date_of, IsDateOf, two_digits, date_text, day_text}
use Rattle.day_number.specs.Text.{number_of_text, day_of_date, day_of_numbers, day_of_text, ReadsWhatIsPrinted}
use Rattle.day_number.proofs.DayLemmas.{civil_number-range, date_of-is, date_of-civil_number}
use Rattle.day_number.proofs.DigitLemmas.{some_number}

pub both_true : (a b : Bool) → (a && b) ≡ true → (a ≡ true) × (b ≡ true)
both_true true b h = (refl, h)
both_true false b h = absurd cc

-- what stands under a test that passed
pub passed : {X : Type 0} (b : Bool) (r : Option X) (x : X) → cond b r None ≡ Some x → (b ≡ true) × (r ≡ Some x)
passed true r x h = (refl, h)
passed false r x h = absurd cc

pub in_range_true : (low high n : ℕ) → is_in_range low high n ≡ true → IsInRange low high n
in_range_true low high n h = grind (arith, nat_tests)

pub true_in_range : (low high n : ℕ) → IsInRange low high n → is_in_range low high n ≡ true
true_in_range low high n h = grind (arith, nat_tests)

-- a text that writes a number has digits alone
pub written : (text : List ℕ) (n : ℕ) → number_of_text text ≡ Some n → (0 < length text) × (all_ascii_digits text ≡ true) × (digits_value 10 text ≡ n)
written text n h =
    let picked = cond_some (nat_lt 0 (length text) && all_ascii_digits text) (digits_value 10 text) n h in
    let tests = both_true (nat_lt 0 (length text)) (all_ascii_digits text) picked.0 in
    let test = tests.0 in
    (grind (arith, nat_tests), tests.1, picked.1)

two_written : (a b n : ℕ) → number_of_text (a ∷ b ∷ []) ≡ Some n → two_digits n ≡ a ∷ b ∷ []
two_written a b n h =
    let w = written (a ∷ b ∷ []) n h in
    let first = tells_all_ascii_digits.parts a (b ∷ []) w.1 in
    let second = tells_all_ascii_digits.parts b [] first.1 in
    let x = digit_value_digit a first.0 in
    let y = digit_value_digit b second.0 in
    let value : digits_value 10 (a ∷ b ∷ []) ≡ n = w.2 in
    let high : 48 + n / 10 ≡ a = omega arith in
    let low : 48 + n % 10 ≡ b = omega arith in
    rw (high, low) refl

four_written : (a b c d n : ℕ) → number_of_text (a ∷ b ∷ c ∷ d ∷ []) ≡ Some n → two_digits (n / 100) ++ two_digits (n % 100) ≡ a ∷ b ∷ c ∷ d ∷ []
four_written a b c d n h =
    let w = written (a ∷ b ∷ c ∷ d ∷ []) n h in
    let p = tells_all_ascii_digits.parts a (b ∷ c ∷ d ∷ []) w.1 in
    let q = tells_all_ascii_digits.parts b (c ∷ d ∷ []) p.1 in
    let r = tells_all_ascii_digits.parts c (d ∷ []) q.1 in
    let s = tells_all_ascii_digits.parts d [] r.1 in
    let x = digit_value_digit a p.0 in
    let y = digit_value_digit b q.0 in
    let z = digit_value_digit c r.0 in
    let u = digit_value_digit d s.0 in
    let value : digits_value 10 (a ∷ b ∷ c ∷ d ∷ []) ≡ n = w.2 in
    let e1 : 48 + n / 100 / 10 ≡ a = omega arith in
    let e2 : 48 + n / 100 % 10 ≡ b = omega arith in
    let e3 : 48 + n % 100 / 10 ≡ c = omega arith in
    let e4 : 48 + n % 100 % 10 ≡ d = omega arith in
    rw (e1, e2, e3, e4) refl

two_read : (n : ℕ) → n < 100 → number_of_text (two_digits n) ≡ Some n
two_read n h =
    let high : IsInRange 48 57 (48 + n / 10) = (omega arith, omega arith) in
    let low : IsInRange 48 57 (48 + n % 10) = (omega arith, omega arith) in
    let digits = tells_all_ascii_digits.more (48 + n / 10) ((48 + n % 10) ∷ []) high (tells_all_ascii_digits.more (48 + n % 10) [] low tells_all_ascii_digits.empty) in
    let x = digit_value_digit (48 + n / 10) high in
    let y = digit_value_digit (48 + n % 10) low in
    let value : digits_value 10 (two_digits n) ≡ n = omega arith in
    some_number (two_digits n) (omega arith) digits ∙ ap (λ (k : ℕ). Some k) value

four_read : (n : ℕ) → n < 10000 → number_of_text (two_digits (n / 100) ++ two_digits (n % 100)) ≡ Some n
four_read n h =
    let a = 48 + n / 100 / 10 in
    let b = 48 + n / 100 % 10 in
    let c = 48 + n % 100 / 10 in
    let d = 48 + n % 100 % 10 in
    let p : IsInRange 48 57 a = (omega arith, omega arith) in
    let q : IsInRange 48 57 b = (omega arith, omega arith) in
    let r : IsInRange 48 57 c = (omega arith, omega arith) in
    let s : IsInRange 48 57 d = (omega arith, omega arith) in
    let more = tells_all_ascii_digits.more in
    let digits = more a (b ∷ c ∷ d ∷ []) p (more b (c ∷ d ∷ []) q (more c (d ∷ []) r (more d [] s tells_all_ascii_digits.empty))) in
    let x = digit_value_digit a p in
    let y = digit_value_digit b q in
    let z = digit_value_digit c r in
    let u = digit_value_digit d s in
    let value : digits_value 10 (a ∷ b ∷ c ∷ d ∷ []) ≡ n = omega arith in
    some_number (a ∷ b ∷ c ∷ d ∷ []) (omega arith) digits ∙ ap (λ (k : ℕ). Some k) value

numbers_some : (a b c : Option ℕ) (number : ℤ) → day_of_numbers a b c ≡ Some number → (year : ℕ) × (month : ℕ) × (day : ℕ) × (a ≡ Some year) × (b ≡ Some month) × (c ≡ Some day) × (day_of_date year month day ≡ Some number)
numbers_some (Some year) (Some month) (Some day) number h = (year, month, day, refl, refl, refl, h)
numbers_some (Some year) (Some month) None number h = absurd cc
numbers_some (Some year) None c number h = absurd cc
numbers_some None b c number h = absurd cc

date_some : (year month day : ℕ) (number : ℤ) → day_of_date year month day ≡ Some number → IsDateOf number (record { year = pos year; month = month; day = day })
date_some year month day number h =
    let tests = is_in_range 1901 2199 year && is_in_range 1 12 month in
    let picked = cond_some (tests && is_in_range 1 (days_in_month (pos year) month) day) (civil_number (pos year) month day) number h in
    let all = both_true tests (is_in_range 1 (days_in_month (pos year) month) day) picked.0 in
    let two = both_true (is_in_range 1901 2199 year) (is_in_range 1 12 month) all.0 in
    let years = in_range_true 1901 2199 year two.0 in
    (((omega (arith, signed_arith), omega (arith, signed_arith)), in_range_true 1 12 month two.1, in_range_true 1 (days_in_month (pos year) month) day all.1), picked.1)

some_date : (year month day : ℕ) → IsCivil (pos year) month day → day_of_date year month day ≡ Some (civil_number (pos year) month day)
some_date year month day h =
    let years : IsInRange 1901 2199 year = (omega (arith, signed_arith), omega (arith, signed_arith)) in
    rw (true_in_range 1901 2199 year years, true_in_range 1 12 month h.1, true_in_range 1 (days_in_month (pos year) month) day h.2) refl

-- a list of ten bytes
record Ten (text : List ℕ) : Type 0 where
  c0 : ℕ
  c1 : ℕ
  c2 : ℕ
  c3 : ℕ
  c4 : ℕ
  c5 : ℕ
  c6 : ℕ
  c7 : ℕ
  c8 : ℕ
  c9 : ℕ
  is : text ≡ c0 ∷ c1 ∷ c2 ∷ c3 ∷ c4 ∷ c5 ∷ c6 ∷ c7 ∷ c8 ∷ c9 ∷ []

one_more : (k : ℕ) (text : List ℕ) → length text ≡ suc k → (c : ℕ) × (cs : List ℕ) × (text ≡ c ∷ cs) × (length cs ≡ k)
one_more k [] h = absurd (omega arith)
one_more k (c ∷ cs) h = (c, cs, refl, omega arith)

none_more : (text : List ℕ) → length text ≡ 0 → text ≡ []
none_more [] h = refl
none_more (c ∷ cs) h = absurd (omega arith)

ten : (text : List ℕ) → length text ≡ 10 → Ten text
ten text h =
    let a = one_more 9 text h in
    let b = one_more 8 a.1 a.3 in
    let c = one_more 7 b.1 b.3 in
    let d = one_more 6 c.1 c.3 in
    let e = one_more 5 d.1 d.3 in
    let f = one_more 4 e.1 e.3 in
    let g = one_more 3 f.1 f.3 in
    let i = one_more 2 g.1 g.3 in
    let j = one_more 1 i.1 i.3 in
    let k = one_more 0 j.1 j.3 in
    let l = none_more k.1 k.3 in
    record { c0 = a.0; c1 = b.0; c2 = c.0; c3 = d.0; c4 = e.0; c5 = f.0; c6 = g.0; c7 = i.0; c8 = j.0; c9 = k.0; is = cc }

printed_date : (year month day : ℕ) (number : ℤ) → IsDateOf number (record { year = pos year; month = month; day = day }) → day_text number ≡ date_text year month day
printed_date year month day number h =
    let same : date_of number ≡ record { year = pos year; month = month; day = day } = ap date_of (sym h.1) ∙ date_of-civil_number (pos year) month day h.0 in
    ap (λ (d : CivilDate). date_text (unsigned_abs d.year) d.month d.day) same

ten_long : (text : List ℕ) (number : ℤ) → day_of_text text ≡ Some number → length text ≡ 10
unfolding day_of_text
ten_long text number h =
    let long = nat_eq (length text) 10 in
    let first = nat_eq (slice_index text 4) 45 in
    let second = nat_eq (slice_index text 7) 45 in
    let picked = passed (long && first && second) (day_of_numbers (number_of_text (slice_range text 0 4)) (number_of_text (slice_range text 5 7)) (number_of_text (slice_range text 8 10))) number h in
    let two = both_true (long && first) second picked.0 in
    let test = (both_true long first two.0).0 in
    grind (arith, nat_tests)

joined : (c0 c1 c2 c3 c4 c5 c6 c7 c8 c9 year month day : ℕ) → c4 ≡ 45 → c7 ≡ 45 → two_digits (year / 100) ++ two_digits (year % 100) ≡ c0 ∷ c1 ∷ c2 ∷ c3 ∷ [] → two_digits month ≡ c5 ∷ c6 ∷ [] → two_digits day ≡ c8 ∷ c9 ∷ [] → c0 ∷ c1 ∷ c2 ∷ c3 ∷ c4 ∷ c5 ∷ c6 ∷ c7 ∷ c8 ∷ c9 ∷ [] ≡ date_text year month day
joined c0 c1 c2 c3 c4 c5 c6 c7 c8 c9 year month day first second years months days = cc

ten_read : (c0 c1 c2 c3 c4 c5 c6 c7 c8 c9 : ℕ) (number : ℤ) → day_of_text (c0 ∷ c1 ∷ c2 ∷ c3 ∷ c4 ∷ c5 ∷ c6 ∷ c7 ∷ c8 ∷ c9 ∷ []) ≡ Some number → IsDayNumber number × (c0 ∷ c1 ∷ c2 ∷ c3 ∷ c4 ∷ c5 ∷ c6 ∷ c7 ∷ c8 ∷ c9 ∷ [] ≡ day_text number)
unfolding day_of_text
ten_read c0 c1 c2 c3 c4 c5 c6 c7 c8 c9 number h =
    let year_text = number_of_text (c0 ∷ c1 ∷ c2 ∷ c3 ∷ []) in
    let month_text = number_of_text (c5 ∷ c6 ∷ []) in
    let day_text = number_of_text (c8 ∷ c9 ∷ []) in
    let picked = passed (nat_eq c4 45 && nat_eq c7 45) (day_of_numbers year_text month_text day_text) number h in
    let dashes = both_true (nat_eq c4 45) (nat_eq c7 45) picked.0 in
    let first : c4 ≡ 45 = (let test = dashes.0 in grind (arith, nat_tests)) in
    let second : c7 ≡ 45 = (let test = dashes.1 in grind (arith, nat_tests)) in
    let parts = numbers_some year_text month_text day_text number picked.1 in
    let date = date_some parts.0 parts.1 parts.2 number parts.6 in
    let range = rw date.1 at (civil_number-range (pos parts.0) parts.1 parts.2 date.0) in
    let year = four_written c0 c1 c2 c3 parts.0 parts.3 in
    let month = two_written c5 c6 parts.1 parts.4 in
    let day = two_written c8 c9 parts.2 parts.5 in
    let whole = joined c0 c1 c2 c3 c4 c5 c6 c7 c8 c9 parts.0 parts.1 parts.2 first second year month day in
    (range, whole ∙ sym (printed_date parts.0 parts.1 parts.2 number date))

read_text : (text : List ℕ) (number : ℤ) → day_of_text text ≡ Some number → IsDayNumber number × (text ≡ day_text number)
read_text text number h =
    let it = ten text (ten_long text number h) in
    let P : List ℕ → Type 0 = λ t. IsDayNumber number × (t ≡ day_text number) in
    subst P (sym it.is) (ten_read it.c0 it.c1 it.c2 it.c3 it.c4 it.c5 it.c6 it.c7 it.c8 it.c9 number (ap day_of_text (sym it.is) ∙ h))

numbers_are : (a b c : Option ℕ) (year month day : ℕ) → a ≡ Some year → b ≡ Some month → c ≡ Some day → day_of_numbers a b c ≡ day_of_date year month day
numbers_are a b c year month day p q r = rw (p, q, r) refl

text_read : (number : ℤ) → IsDayNumber number → day_of_text (day_text number) ≡ Some number
unfolding day_of_text
text_read number h =
    let date = date_of number in
    let own = date_of-is number h in
    let year = unsigned_abs date.year in
    let parts = unsigned_abs-parts date.year in
    let part = one_part date.year in
    let same : date.year ≡ pos year = omega (arith, signed_arith) in
    let civil : IsCivil (pos year) date.month date.day = (let P : ℤ → Type 0 = λ y. IsCivil y date.month date.day in subst P same own.0) in
    let long = days_in_month_bounds date.year date.month in
    let small : year < 10000 = omega (arith, signed_arith) in
    numbers_are (number_of_text (two_digits (year / 100) ++ two_digits (year % 100))) (number_of_text (two_digits date.month)) (number_of_text (two_digits date.day))
    year date.month date.day (four_read year small) (two_read date.month (omega arith)) (two_read date.day (omega arith))
    ∙ some_date year date.month date.day civil
    ∙ ap (λ (y : ℤ). Some (civil_number y date.month date.day)) (sym same)
    ∙ ap (λ (z : ℤ). Some z) own.1

pub reads_what_is_printed : ReadsWhatIsPrinted
reads_what_is_printed text number =
    (read_text text number, λ h. ap day_of_text h.1 ∙ text_read number h.0)
