use Rattle.std.proofs.lemmas.Result.{err_from_is_err_and}
use Rattle.tool_script.specs.Basis.{basis_in}
use Rattle.tool_frame.proofs.Calling.{begins_none}
use Rattle.tool_script.proofs.Plays.{first_named}
use Rattle.tool_runs.proofs.explain_steps.explanation_lines.Goals as goal

pub returns-in_err-session-clause-calls : goal.returns-in_err-session-clause-calls
returns-in_err-session-clause-calls g c =
    let from = c.from_residual in
    let p = err_from_is_err_and from.result from.ensures.1 in
    rw p.1 (begins_none _ (g.B.Bench.count c.args.bench.now) (g.B.Bench.log c.args.bench.now))

pub lines_in-requires-clause-named : goal.lines_in-requires-clause-named
lines_in-requires-clause-named g c =
    first_named (basis_in c.args.market.now c.args.names.now) c.in_ok-session.session c.in_ok-session.ensures.begins

pub lines_in-requires-clause-going : goal.lines_in-requires-clause-going
lines_in-requires-clause-going g c = c.in_ok-session.ensures.going (g.B.Bench.calc c.args.bench.now)
