use Rattle.std.proofs.Common.{◌+◌, ◌∷◌, arith, append-nil}
use Rattle.std.proofs.lemmas.Fmt.{length-decimal-le}
use Rattle.std.proofs.lemmas.List.{drop-set, drop_all}
use Rattle.fixed_amount.specs.Decimal.{last_digits}
use Rattle.fixed_amount.proofs.Digits.{decimal_of_part, length-decimal_of_part, length-last_digits, point_text_some, drop_behind}
use Rattle.fixed_amount.proofs.print.write_fraction.Goals as goal

pub returns-then-places-eq0-clause-written : goal.returns-then-places-eq0-clause-written
returns-then-places-eq0-clause-written c number h = rw c.if-places-eq0.true (drop_all 59 c.args.text.now (omega arith))

pub write_digits-start-requires : goal.write_digits-start-requires
write_digits-start-requires c =
    (omega (arith, length-decimal-le 19 (c.power_of_ten.result + c.args.part) (omega arith) (omega arith) (omega arith)), omega arith)

pub bounds-text-start : goal.bounds-text-start
bounds-text-start c = omega (arith, length-decimal_of_part c.args.places c.args.part c.power_of_ten.result c.requires.few c.power_of_ten.ensures.value c.requires.below)

pub returns-clause-start : goal.returns-clause-start
returns-clause-start c =
    let long = length-decimal_of_part c.args.places c.args.part c.power_of_ten.result c.requires.few c.power_of_ten.ensures.value c.requires.below in
    (omega arith, omega arith)

pub returns-clause-written : goal.returns-clause-written
returns-clause-written c number h =
    let a = c.args in
    let w = c.write_digits-start in
    let digits = last_digits a.places number in
    let long = length-decimal_of_part a.places a.part c.power_of_ten.result c.requires.few c.power_of_ten.ensures.value c.requires.below in
    let some = point_text_some digits (omega (arith, length-last_digits a.places number)) in
    let text = decimal_of_part a.places a.part number c.power_of_ten.result c.requires.few c.power_of_ten.ensures.value h in
    let none = drop_all 59 a.text.now (omega arith) in
    let behind = drop_behind w.new.buf digits 49 w.result (rw (w.ensures.written, text, none) (append-nil (49 ∷ digits))) in
    rw (drop-set w.new.buf w.result 46 (omega arith), behind, some)
