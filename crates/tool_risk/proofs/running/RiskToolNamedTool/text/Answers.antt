use Rattle.std.proofs.lemmas.Result.{err_from_is_err_and}
use Rattle.tool_frame.proofs.Calling.{begins_none}
use Rattle.tool_risk.proofs.running.RiskToolNamedTool.text.Goals as goal

pub returns-in_err-named-clause-calls : goal.returns-in_err-named-clause-calls
returns-in_err-named-clause-calls g c =
    let from = c.from_residual in
    let p = err_from_is_err_and from.result from.ensures.1 in
    rw p.1 (begins_none _ (g.B.Bench.count c.args.bench.now) (g.B.Bench.log c.args.bench.now))

pub lines_on-requires-clause-sound : goal.lines_on-requires-clause-sound
lines_on-requires-clause-sound g c = c.in_ok-named.ensures.sound (g.B.Bench.calc c.args.bench.now)
