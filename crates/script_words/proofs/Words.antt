-- A printed word is read back.
use Rattle.std.proofs.Common.{◌≡◌, ℕ, ◌+◌, ◌≤◌, ◌<◌, ◌^◌, Bool, true, false, ◌||◌, List, length, nat_lt, nat_le, Some, Ok, slice_get, ℤ, pos, negsuc, neg_ℤ, ◌≤ℤ◌, ◌<ℤ◌, unsigned_abs, refl, ap, ◌∙◌, arith, cond, [], ◌∷◌, ◌++◌, ◌/◌, ◌==◌, lit<}
use Rattle.std.specs.Fmt.{decimal, sign_text}
use Rattle.std.specs.Int.{is_negative}
use Rattle.std.proofs.lemmas.Fmt.{length-decimal-le}
use Rattle.std.proofs.lemmas.List.{append-nil}
use Rattle.std.proofs.lemmas.Bool.{le-leb}
use Rattle.std.proofs.lemmas.Int.{ints}
use Rattle.std.proofs.lemmas.Bool.Decides.{nat_tests}
use Rattle.fixed_amount.specs.Decimal.{decimal_text}
use Rattle.fixed_amount.proofs.Printed.{printed_read}
use Rattle.day_number.specs.Day.{IsDayNumber, day_text}
use Rattle.day_number.specs.Text.{day_of_text}
use Rattle.day_number.proofs.TextLemmas.{reads_what_is_printed}
use Rattle.desk_names.specs.Name.{is_name}
use Rattle.desk_names.specs.Names.{has_text, with_text, place_of, most_names, IsNames}
use Rattle.desk_names.proofs.NameLaws.{has_text-at, place_of-at, known_stays, IsName-at}
use Rattle.script_words.specs.Word.{within, number_within, numbered, unsigned_part, weight_of}

-- a name that is kept keeps its number, and the names stay
pub name_again : (names : List (List ℕ)) (n : ℕ) (text : List ℕ) → IsNames names → slice_get names n ≡ Some text → numbered names text ≡ Ok (n, names)
unfolding numbered
name_again names n text fine at =
    let good : is_name text ≡ true = IsName-at names text fine n at in
    let known : has_text names text ≡ true = has_text-at names text n at in
    let room : (has_text names text || nat_lt (length names) most_names) ≡ true = rw known refl in
    let place : place_of names text ≡ n = place_of-at names text fine.distinct n at in
    let same : with_text names text ≡ names = known_stays names text known in
    rw (good, room) (cc)

low : (units : ℤ) (limit : ℕ) → limit < 2 ^ 63 → unsigned_abs units ≤ limit → neg_ℤ (pos (2 ^ 63)) ≤ℤ units
low (pos n) limit h k = omega (arith, ints)
low (negsuc n) limit h k = omega (arith, ints)

high : (units : ℤ) (limit : ℕ) → limit < 2 ^ 63 → unsigned_abs units ≤ limit → units <ℤ pos (2 ^ 63)
high (pos n) limit h k = omega (arith, ints)
high (negsuc n) limit h k = omega (arith, ints)

in_limit : (units : ℤ) (limit : ℕ) → unsigned_abs units ≤ limit → within limit (Ok units) ≡ Some units
in_limit units limit h = grind (arith, nat_tests)

-- a decimal within its limit
pub decimal_again : (units : ℤ) (limit : ℕ) → limit < 2 ^ 63 → unsigned_abs units ≤ limit → number_within 9 limit (decimal_text units 9) ≡ Some units
decimal_again units limit h k = ap (within limit) (printed_read units 9 (low units limit h k) (high units limit h k)) ∙ in_limit units limit k

-- a day
pub day_again : (day : ℤ) → IsDayNumber day → day_of_text (day_text day) ≡ Some day
day_again day fine = (reads_what_is_printed (day_text day) day).1 (fine, refl)

part_by : (b : Bool) (byte : ℕ) (rest : List ℕ) → length (cond b rest (byte ∷ rest)) ≤ length rest + 1
part_by true byte rest = omega arith
part_by false byte rest = omega arith

part_short : (text : List ℕ) → length (unsigned_part text) ≤ length text
part_short [] = omega arith
part_short (byte ∷ rest) = omega (arith, part_by (byte == 45) byte rest)

digits_short : (n : ℕ) → n ≤ 1_000_000 → length (decimal (n / 10 ^ 0) ++ []) ≤ 7
digits_short n h = rw append-nil (length-decimal-le 7 (n / 10 ^ 0) (lit< tt) (omega arith) (omega arith))

sign_short : (negative : Bool) (digits : List ℕ) → length (unsigned_part (sign_text negative ++ digits)) ≤ length digits
sign_short true digits = omega arith
sign_short false digits = part_short digits

weight_short : (weight : ℤ) → unsigned_abs weight ≤ 1_000_000 → length (unsigned_part (decimal_text weight 0)) ≤ 7
unfolding decimal_text
weight_short weight h =
    let some : length (unsigned_part (decimal_text weight 0)) ≤ length (decimal (unsigned_abs weight / 10 ^ 0) ++ []) = sign_short (is_negative weight) (decimal (unsigned_abs weight / 10 ^ 0) ++ []) in
    let few : length (decimal (unsigned_abs weight / 10 ^ 0) ++ []) ≤ 7 = digits_short (unsigned_abs weight) h in
    omega arith

-- a weight
pub weight_again : (weight : ℤ) → unsigned_abs weight ≤ 1_000_000 → weight_of (decimal_text weight 0) ≡ Some weight
unfolding weight_of
weight_again weight h =
    let short : nat_le (length (unsigned_part (decimal_text weight 0))) 7 ≡ true = le-leb (length (unsigned_part (decimal_text weight 0))) 7 (weight_short weight h) in
    let read : number_within 0 1_000_000 (decimal_text weight 0) ≡ Some weight = ap (within 1_000_000) (printed_read weight 0 (low weight 1_000_000 (lit< tt) h) (high weight 1_000_000 (lit< tt) h)) ∙ in_limit weight 1_000_000 h in
    rw short read
