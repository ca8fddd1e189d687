use Rattle.std.proofs.Common.{◌≡◌, ℕ, suc, ◌+◌, List, [], ◌++◌, refl, sym, ◌∙◌, ap, arith}
use Rattle.std.proofs.lemmas.List.{append_assoc, append-nil}
use Rattle.curve_drawing.specs.declared.scale.Scale.{Scale}
use Rattle.curve_drawing.specs.Svg.{step_mark, steps_below}
use Rattle.curve_drawing.proofs.marks.push_steps.Goals as goal

none : (scale : Scale) → steps_below scale 0 ≡ []
unfolding steps_below
none scale = refl

next : (scale : Scale) (mark : ℕ) → steps_below scale (mark + 1) ≡ steps_below scale mark ++ step_mark scale mark
unfolding steps_below
next scale mark = ap (steps_below scale) (let e : mark + 1 ≡ suc mark = omega arith in e)

pub loop-mark-init : goal.loop-mark-init
loop-mark-init c = sym (append-nil c.args.out.now.items) ∙ ap (λ (l : List ℕ). c.args.out.now.items ++ l) (sym (none c.args.scale.now))

pub loop-mark-preserved : goal.loop-mark-preserved
loop-mark-preserved c =
    let scale = c.args.scale.now in
    let mark = c.loop-mark.mark in
    let old = c.args.out.now.items in
    c.in_ok-push_step.ensures
    ∙ ap (λ (l : List ℕ). l ++ step_mark scale mark) c.loop-mark.invariant
    ∙ append_assoc old (steps_below scale mark) (step_mark scale mark)
    ∙ ap (λ (l : List ℕ). old ++ l) (sym (next scale mark))
