use Rattle.std.proofs.Common.{◌≡◌, ◌+◌, ◌-◌, ◌*◌, ◌/◌, ◌%◌, ◌^◌, ◌<◌, [], ◌∷◌, ◌++◌, length, drop, set, decimal, refl, ap, ◌∙◌, arith, append-nil, length-append}
use Rattle.std.proofs.lemmas.Fmt.{decimal_digit, length-decimal-le}
use Rattle.std.proofs.lemmas.List.{drop-set, drop-set-add, drop_all}
use Rattle.std.proofs.lemmas.Nat.{mod_below}
use Rattle.std.proofs.Math.Nat.{div-eq_of_lt}
use Rattle.fixed_amount.specs.Decimal.{last_digits}
use Rattle.fixed_amount.proofs.Digits.{decimal_below, decimal_parted, length-last_digits, point_text_some, drop_behind, set_behind}
use Rattle.fixed_amount.proofs.print.write_near.Goals as goal

pub write_digits-requires : goal.write_digits-requires
write_digits-requires c = (omega (arith, length-decimal-le 18 c.args.size (omega arith) (omega arith) (omega arith)), omega arith)

pub returns-then-places-eq0-clause-start : goal.returns-then-places-eq0-clause-start
returns-then-places-eq0-clause-start c =
    let short = length-decimal-le 18 c.args.size (omega arith) (omega arith) (omega arith) in
    (omega arith, omega arith)

pub returns-then-places-eq0-clause-written : goal.returns-then-places-eq0-clause-written
returns-then-places-eq0-clause-written c =
    let one : c.args.size / 10 ^ 0 ≡ c.args.size = omega arith in
    rw (c.if-places-eq0.true, one, c.write_digits.ensures.written, drop_all 59 c.args.text.now (omega arith)) refl

pub write_digits-start-requires : goal.write_digits-start-requires
write_digits-start-requires c =
    (omega (arith, length-decimal-le 20 (c.power_of_ten-power.result * 10 + c.args.size) (omega arith) (omega arith) (omega arith)), omega arith)

pub bounds-text-start : goal.bounds-text-start
bounds-text-start c =
    let text = decimal_below c.args.places c.args.size c.power_of_ten-power.result c.requires.few c.power_of_ten-power.ensures.value c.if-size-power.true in
    omega (arith, ap length text)

pub bounds-text-start-then-size-power : goal.bounds-text-start-then-size-power
bounds-text-start-then-size-power c =
    let text = decimal_below c.args.places c.args.size c.power_of_ten-power.result c.requires.few c.power_of_ten-power.ensures.value c.if-size-power.true in
    omega (arith, ap length text)

pub returns-then-size-power-clause-start : goal.returns-then-size-power-clause-start
returns-then-size-power-clause-start c =
    let short = length-decimal-le 20 (c.power_of_ten-power.result * 10 + c.args.size) (omega arith) (omega arith) (omega arith) in
    (omega arith, omega arith)

pub returns-then-size-power-clause-written : goal.returns-then-size-power-clause-written
returns-then-size-power-clause-written c =
    let a = c.args in
    let w = c.write_digits-start in
    let digits = last_digits a.places a.size in
    let text = decimal_below a.places a.size c.power_of_ten-power.result c.requires.few c.power_of_ten-power.ensures.value c.if-size-power.true in
    let bound : w.result < 59 = omega (arith, ap length text) in
    let none = drop_all 59 a.text.now (omega arith) in
    let behind = drop_behind w.new.buf (48 ∷ digits) 49 w.result (rw (w.ensures.written, text, none) (append-nil (49 ∷ 48 ∷ digits))) in
    let some = point_text_some digits (omega (arith, length-last_digits a.places a.size)) in
    let less : a.size < 10 ^ a.places = omega (arith, c.if-size-power.true, c.power_of_ten-power.ensures.value) in
    let zero : a.size / 10 ^ a.places ≡ 0 = div-eq_of_lt less in
    rw (drop-set-add w.result (set w.new.buf w.result 48) 1 46, drop-set w.new.buf w.result 48 (omega arith), behind, zero, decimal_digit 0 (omega arith), some) (set_behind (48 ∷ []) digits 48 46)

pub write_digits-start-requires-2 : goal.write_digits-start-requires-2
write_digits-start-requires-2 c =
    let below = mod_below c.args.size c.power_of_ten-power.result c.power_of_ten-power.ensures.positive in
    (omega (arith, length-decimal-le 20 ((c.args.size - c.args.size % c.power_of_ten-power.result) * 10 + c.args.size % c.power_of_ten-power.result) (omega arith) (omega arith) (omega arith)), omega arith)

pub returns-clause-start : goal.returns-clause-start
returns-clause-start c =
    let below = mod_below c.args.size c.power_of_ten-power.result c.power_of_ten-power.ensures.positive in
    let short = length-decimal-le 20 ((c.args.size - c.args.size % c.power_of_ten-power.result) * 10 + c.args.size % c.power_of_ten-power.result) (omega arith) (omega arith) (omega arith) in
    (omega arith, omega arith)

pub returns-clause-written : goal.returns-clause-written
returns-clause-written c =
    let a = c.args in
    let w = c.write_digits-start-2 in
    let digits = last_digits a.places a.size in
    let whole = decimal (a.size / 10 ^ a.places) in
    let text = decimal_parted a.places a.size c.power_of_ten-power.result c.power_of_ten-power.ensures.value (omega arith) c.requires.near in
    let long = ap length text ∙ length-append whole (48 ∷ digits) in
    let at : 58 - a.places ≡ w.result + length whole = omega (arith, long, length-last_digits a.places a.size) in
    let none = drop_all 59 a.text.now (omega arith) in
    let written : drop w.result w.new.buf ≡ whole ++ 48 ∷ digits = rw (w.ensures.written, text, none) (append-nil (whole ++ 48 ∷ digits)) in
    let some = point_text_some digits (omega (arith, length-last_digits a.places a.size)) in
    rw (at, drop-set-add w.result w.new.buf (length whole) 46, written, some) (set_behind whole digits 48 46)
