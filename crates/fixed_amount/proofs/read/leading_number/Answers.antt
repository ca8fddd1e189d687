use Rattle.std.proofs.Common.{◌≡◌, ℕ, ◌+◌, ◌*◌, ◌<◌, List, [], ◌∷◌, ◌++◌, length, take, get_or, true, refl, sym, ap, ◌∙◌, arith, rules, append-nil, append_assoc}
use Rattle.std.specs.Char.{is_ascii_digit, digit_value}
use Rattle.std.specs.Str.Parse.{digits_value}
use Rattle.std.proofs.lemmas.Bool.{and_from}
use Rattle.std.proofs.lemmas.Int.Digits.{digits_value_push}
use Rattle.std.proofs.lemmas.List.{take_more}
use Rattle.std.proofs.lemmas.List.Folds.{list_all_more}
use Rattle.std.proofs.lemmas.List.Sums.{prefix_len-drop_no, prefix_len-drop_all}
use Rattle.fixed_amount.proofs.Digits.{digit_value_is, count_at}
use Rattle.fixed_amount.proofs.Parts.{capped}
use Rattle.fixed_amount.proofs.read.leading_number.Goals as goal
use Rattle.fixed_amount.proofs.read.leading_number.Goals.{then-number-lt-NEAR, else-number-lt-NEAR}

-- the number of the digits so far and one digit more
pushed : (digits text : List ℕ) (at : ℕ) → at < length text → digits_value 10 (digits ++ take (at + 1) text) ≡ digits_value 10 (digits ++ take at text) * 10 + digit_value (get_or text at 0)
pushed digits text at h = rw (take_more text at 0 h, ← append_assoc digits (take at text) (get_or text at 0 ∷ [])) (digits_value_push 10 (digits ++ take at text) (get_or text at 0))

pub loop-byte-init : goal.loop-byte-init
loop-byte-init c = (refl, refl, λ digits before. rw (append-nil digits) before)

pub loop-byte-preserved : goal.loop-byte-preserved
loop-byte-preserved c =
    let text = c.args.text.now in
    let at = c.loop-byte.byte-index in
    let digit : is_ascii_digit (get_or text at 0) ≡ true = search rules in
    let is = digit_value_is (get_or text at 0) digit in (
      ap (λ n. n + 1) c.loop-byte.invariant.0,
      list_all_more is_ascii_digit text at 0 c.loop-byte-test.true ∙ and_from _ _ c.loop-byte.invariant.1 digit,
      λ digits before.
          let more = pushed digits text at c.loop-byte-test.true in
          elim c.if-number-lt-NEAR.branch [
            | then-number-lt-NEAR w ↦ omega (arith, is.2, more, c.loop-byte.invariant.2 digits before, w.if-number-lt-NEAR.true, w.number-is)
            | else-number-lt-NEAR w ↦ omega (arith, is.2, more, c.loop-byte.invariant.2 digits before, w.if-number-lt-NEAR.false, w.number-is)
          ],
    )

pub returns-then-not-is_ascii_digit-clause-count : goal.returns-then-not-is_ascii_digit-clause-count
returns-then-not-is_ascii_digit-clause-count c =
    let text = c.args.text.now in
    let at = c.loop-byte.byte-index in
    c.loop-byte.invariant.0
    ∙ sym (count_at is_ascii_digit text at (omega arith) c.loop-byte.invariant.1 (prefix_len-drop_no is_ascii_digit text at 0 c.loop-byte-test.true (search rules)))

pub returns-then-not-is_ascii_digit-clause-number : goal.returns-then-not-is_ascii_digit-clause-number
returns-then-not-is_ascii_digit-clause-number c = λ digits before.
    let text = c.args.text.now in
    let at = c.loop-byte.byte-index in
    c.loop-byte.invariant.2 digits before
    ∙ sym (ap (λ n. capped (digits ++ take n text)) (count_at is_ascii_digit text at (omega arith) c.loop-byte.invariant.1 (prefix_len-drop_no is_ascii_digit text at 0 c.loop-byte-test.true (search rules))))

pub returns-clause-count : goal.returns-clause-count
returns-clause-count c =
    let text = c.args.text.now in
    let at = c.loop-byte.byte-index in
    c.loop-byte.invariant.0 ∙ sym (count_at is_ascii_digit text at (omega arith) c.loop-byte.invariant.1 (prefix_len-drop_all is_ascii_digit text at (omega arith)))

pub returns-clause-number : goal.returns-clause-number
returns-clause-number c = λ digits before.
    let text = c.args.text.now in
    let at = c.loop-byte.byte-index in
    c.loop-byte.invariant.2 digits before
    ∙ sym (ap (λ n. capped (digits ++ take n text)) (count_at is_ascii_digit text at (omega arith) c.loop-byte.invariant.1 (prefix_len-drop_all is_ascii_digit text at (omega arith))))
