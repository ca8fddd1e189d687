use Rattle.std.proofs.Common.{◌≡◌, ◌<◌, ◌≤◌, ℕ, true, false, get_or, refl, sym, ◌∙◌, arith}
use Rattle.std.specs.Prelude.{nat_le}
use Rattle.std.proofs.lemmas.Bool.Decides.{nat_tests}
use Rattle.curve_drawing.proofs.Steps.{first_next, first_found, first_none}
use Rattle.curve_drawing.proofs.scale.first_from.Goals as goal

is_enough : (a b : ℕ) → a ≤ b → nat_le a b ≡ true
is_enough a b less = grind (arith, nat_tests)

is_short : (a b : ℕ) → b < a → nat_le a b ≡ false
is_short a b less = grind (arith, nat_tests)

pub returns-then-need-step-clause-value : goal.returns-then-need-step-clause-value
returns-then-need-step-clause-value c =
    let step = get_or c.args.steps.now c.loop-step.step-index 0 in
    sym (c.loop-step.invariant ∙ first_found c.args.need c.args.steps.now c.loop-step.step-index step c.args.last c.loop-step-test.true refl
    (is_enough c.args.need step c.if-need-step.true))

pub loop-step-preserved : goal.loop-step-preserved
loop-step-preserved c =
    let step = get_or c.args.steps.now c.loop-step.step-index 0 in
    c.loop-step.invariant ∙ first_next c.args.need c.args.steps.now c.loop-step.step-index step c.args.last c.loop-step-test.true refl
    (is_short c.args.need step c.if-need-step.false)

pub returns-clause-value : goal.returns-clause-value
returns-clause-value c =
    sym (c.loop-step.invariant ∙ first_none c.args.need c.args.steps.now c.loop-step.step-index c.args.last c.loop-step-test.false)
