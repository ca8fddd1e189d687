use Rattle.std.proofs.Common.{◌≡◌, ℕ, ◌^◌, ◌++◌, List, min, take, true}
use Rattle.std.specs.Str.Parse.{digits_value}
use Rattle.fixed_amount.specs.Decimal.{all_digits}
use Rattle.fixed_amount.proofs.read.leading_number.Given as goal

abbrev pub invariant-loop-byte : goal.invariant-loop-byte
invariant-loop-byte l = (l.count ≡ l.byte-index) × (all_digits (take l.byte-index l.text) ≡ true)
    × ((digits : List ℕ) → l.before ≡ min (digits_value 10 digits) (10 ^ 19) → l.number ≡ min (digits_value 10 (digits ++ take l.byte-index l.text)) (10 ^ 19))
