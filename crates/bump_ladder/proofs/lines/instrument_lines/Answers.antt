use Rattle.std.proofs.Common.{List, length, sym, ◌∙◌, ap, subst, arith}
use Rattle.bump_model.specs.declared.ladder.Bump.{Bump}
use Rattle.bump_model.specs.Moves.{AreBumps}
use Rattle.bump_model.specs.Sides.{each_then_all}
use Rattle.bump_model.proofs.Bumping.{all_are, all_few}
use Rattle.bump_model.proofs.Calls.{calls_any}
use Rattle.bump_ladder.proofs.Calling.{made_over}
use Rattle.bump_ladder.proofs.lines.instrument_lines.Goals as goal

pub ladder-requires-clause-bumps : goal.ladder-requires-clause-bumps
ladder-requires-clause-bumps g c =
    subst (λ (l : List Bump). AreBumps c.args.desk.now.market l) (sym (c.as_slice.ensures.value ∙ c.in_ok-bumps.ensures))
    (all_are c.args.desk.now.market c.in_ok-quotes.quotes c.in_ok-quotes.ensures.quotes)

pub ladder-requires-clause-few : goal.ladder-requires-clause-few
ladder-requires-clause-few g c =
    let few = c.in_ok-quotes.ensures.few in
    let more = all_few c.args.desk.now.market c.in_ok-quotes.quotes in
    let same = ap length (c.as_slice.ensures.value ∙ c.in_ok-bumps.ensures) in
    omega (arith, few, more, same)

pub returns-in-Ok-clause-calls : goal.returns-in-Ok-clause-calls
returns-in-Ok-clause-calls g c =
    calls_any _ c.ladder_lines.result _ _ _ _
    (made_over _ _ _ _ _ _ _ _ _ (c.as_slice.ensures.value ∙ c.in_ok-bumps.ensures ∙ ap each_then_all c.in_ok-quotes.ensures.found) c.in-Ok.ensures.ends.1)

pub returns-in-Err-Base-clause-calls : goal.returns-in-Err-Base-clause-calls
returns-in-Err-Base-clause-calls g c =
    let ends = rw c.in-Err-Base.field-0-is at c.in-Err-Base.ensures.ends in
    calls_any _ c.refused_lines.result _ _ _ _
    (made_over _ _ _ _ _ _ _ _ _ (c.as_slice.ensures.value ∙ c.in_ok-bumps.ensures ∙ ap each_then_all c.in_ok-quotes.ensures.found) ends.1)
