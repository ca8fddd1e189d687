use Rattle.std.proofs.Common.{◌≡◌, ◌∙◌, arith, ◌-◌, ◌^◌, ◌<◌, ◌++◌, length, nat_lt, false, ap}
use Rattle.std.proofs.lemmas.Bool.{le-ltb}
use Rattle.std.specs.Str.Parse.{digits_value}
use Rattle.fixed_amount.proofs.Digits.{digits_value_units}
use Rattle.fixed_amount.proofs.Ranges.{in_range_capped}
use Rattle.fixed_amount.proofs.read.units.Goals as goal

pub returns : goal.returns
returns c = λ digits fraction number count.
    let a = c.args in
    let few : nat_lt a.places (length fraction) ≡ false = le-ltb _ _ (omega (arith, count)) in
    let same : 10 ^ (a.places - a.count) ≡ 10 ^ (a.places - length fraction) = ap (λ n. 10 ^ (a.places - n)) count in
    let some : 0 < 10 ^ (a.places - length fraction) = omega (arith, same) in
    let is = rw (c.saturating_mul.ensures, number, c.power_of_ten.ensures.value, count) at c.ranged.ensures in
    let units = digits_value_units digits fraction a.places (omega (arith, count)) in
    rw (few, ← units) (is ∙ in_range_capped a.negative (digits_value 10 (digits ++ fraction)) (10 ^ (a.places - length fraction)) some)
