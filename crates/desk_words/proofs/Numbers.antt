-- Numbers that `parse` reads.
use Rattle.std.proofs.Common.{◌≡◌, ◌∙◌, ℕ, ◌^◌, ◌<◌, Bool, true, false, ◌&&◌, nat_lt, if◌then◌else◌, List, [], ◌∷◌, length, Some, None, Err, refl, sym, ap, arith, true≢false}
use Rattle.std.specs.Char.{is_ascii_digit}
use Rattle.std.specs.List.{list_all}
use Rattle.std.specs.Str.{all_ascii_digits}
use Rattle.std.specs.Str.Parse.{ParsesUnsigned, digits_value}
use Rattle.std.proofs.lemmas.Bool.{ltb-true}
use Rattle.std.proofs.lemmas.Str.Parse.{IsNumeralModel, numerals_by_value, tells_all_ascii_digits, parse_gives}
use Rattle.desk_words.specs.Words.{is_number, number_of}

numerals : IsNumeralModel (λ ds. all_ascii_digits ds ≡ true) (digits_value 10)
numerals = numerals_by_value _ tells_all_ascii_digits

all_digits : (ds : List ℕ) → list_all is_ascii_digit ds ≡ all_ascii_digits ds
all_digits [] = refl
all_digits (d ∷ ds) = ap (λ (b : Bool). is_ascii_digit d && b) (all_digits ds)

left : (a b : Bool) → (a && b) ≡ true → a ≡ true
left true b h = refl
left false b h = absurd (true≢false (sym h))

-- a number has a digit, and digits alone
digits_in : (text : List ℕ) → is_number text ≡ true → (all_ascii_digits text ≡ true) × (0 < length text)
digits_in [] h = absurd (true≢false (sym h))
digits_in (d ∷ ds) h = (sym (all_digits (d ∷ ds)) ∙ left _ _ h, omega arith)

-- where a number is not read, it does not fit
pub number_unread : {E : Type 0} (text : List ℕ) (e : E) → ParsesUnsigned 64 10 text (Err e) → is_number text ≡ true → number_of text ≡ None
number_unread text e parses is =
    go (nat_lt (digits_value 10 text) (2 ^ 64)) refl
  where
    go : (fits : Bool) → nat_lt (digits_value 10 text) (2 ^ 64) ≡ fits → number_of text ≡ None
    go true fits =
        let digits = digits_in text is in
        absurd (cc (parse_gives numerals 64 text (Err e) parses digits.0 digits.1 (ltb-true _ _ fits)))
    go false fits = ap (λ (b : Bool). if b then Some (digits_value 10 text) else None) (ap (λ (b : Bool). b && nat_lt (digits_value 10 text) (2 ^ 64)) is ∙ fits)
