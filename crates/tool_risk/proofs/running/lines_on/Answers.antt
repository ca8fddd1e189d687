use Rattle.std.proofs.lemmas.Result.{err_from_is_err_and}
use Rattle.tool_frame.proofs.Calling.{begins_none}
use Rattle.bump_ladder.proofs.Logging.{makes_made, begins_front}
use Rattle.tool_risk.proofs.running.lines_on.Goals as goal

pub returns-in_err-extend_from_slice-clause-calls : goal.returns-in_err-extend_from_slice-clause-calls
returns-in_err-extend_from_slice-clause-calls g c =
    let from = c.from_residual in
    let p = err_from_is_err_and from.result from.ensures.1 in
    rw p.1 (begins_none _ _ _)

pub returns-in_err-names_rows-clause-calls : goal.returns-in_err-names_rows-clause-calls
returns-in_err-names_rows-clause-calls g c =
    let from = c.from_residual-in_err-names_rows in
    let p = err_from_is_err_and from.result from.ensures.1 in
    rw p.1 (begins_front _ _ _ _ _ c.in_err-names_rows.ensures.asks)

pub returns-clause-calls : goal.returns-clause-calls
returns-clause-calls g c = makes_made _ _ _ _ _ c.in_ok-names_rows.ensures.asks.1
