use Rattle.std.proofs.lemmas.Result.{err_from_is_err_and}
use Rattle.tool_frame.proofs.Calling.{begins_none}
use Rattle.tool_runs.proofs.drawing.text_of.Goals as goal

pub returns-in_err-session-clause-calls : goal.returns-in_err-session-clause-calls
returns-in_err-session-clause-calls g c =
    let from = c.from_residual in
    let p = err_from_is_err_and from.result from.ensures.1 in
    rw p.1 (begins_none _ (g.B.Bench.count c.args.bench.now) (g.B.Bench.log c.args.bench.now))

pub graph_behind-requires-clause-sound : goal.graph_behind-requires-clause-sound
graph_behind-requires-clause-sound g c = c.in_ok-session.ensures.sound (g.B.Bench.calc c.args.bench.now)
