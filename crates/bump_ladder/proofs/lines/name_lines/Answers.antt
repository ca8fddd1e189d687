use Rattle.std.proofs.lemmas.Result.{err_from_is_err_and}
use Rattle.bump_ladder.proofs.Logging.{makes_made, begins_front}
use Rattle.bump_ladder.proofs.lines.name_lines.Goals as goal

pub returns-in_err-bump_lines-clause-calls : goal.returns-in_err-bump_lines-clause-calls
returns-in_err-bump_lines-clause-calls g c =
    let from = c.from_residual in
    let p = err_from_is_err_and from.result from.ensures.1 in
    rw p.1 (begins_front _ _ _ _ _ c.in_err-bump_lines.ensures.calls)

pub returns-clause-calls : goal.returns-clause-calls
returns-clause-calls g c = makes_made _ _ _ _ _ c.in_ok-bump_lines.ensures.calls
