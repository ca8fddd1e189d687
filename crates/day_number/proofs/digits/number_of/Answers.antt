use Rattle.std.proofs.Common.{length, arith, sym, ◌∙◌}
use Rattle.day_number.proofs.DigitLemmas.{no_number, digits-more, value-more, value-lt}
use Rattle.day_number.proofs.digits.number_of.Goals as goal

pub returns-then-not-is_ascii_digit-clause-value :
    goal.returns-then-not-is_ascii_digit-clause-value
returns-then-not-is_ascii_digit-clause-value c =
    sym (no_number c.args.text.now c.loop-byte.byte-index (omega arith) (sym c.is_ascii_digit.ensures.value ∙ c.if-not-is_ascii_digit.true))

pub overflow_mul-number : goal.overflow_mul-number
overflow_mul-number c =
    omega (arith, c.loop-byte.invariant.value, value-lt c.args.text.now c.loop-byte.byte-index 4 c.loop-byte.invariant.digits (omega arith))

pub overflow_add-number : goal.overflow_add-number
overflow_add-number c =
    omega (arith, c.loop-byte.invariant.value, value-lt c.args.text.now c.loop-byte.byte-index 4 c.loop-byte.invariant.digits (omega arith))

pub loop-byte-preserved : goal.loop-byte-preserved
loop-byte-preserved c =
    let digit = sym c.is_ascii_digit.ensures.value ∙ c.if-not-is_ascii_digit.false in
    record {
      digits = digits-more c.args.text.now c.loop-byte.byte-index (omega arith) c.loop-byte.invariant.digits digit;
      value = omega (arith, c.loop-byte.invariant.value, c.from.ensures, value-more c.args.text.now c.loop-byte.byte-index (omega arith) digit);
    }

pub returns-clause-small : goal.returns-clause-small
returns-clause-small c =
    rw c.loop-byte.invariant.value (value-lt c.args.text.now c.loop-byte.byte-index (length c.args.text.now) c.loop-byte.invariant.digits (omega arith))
