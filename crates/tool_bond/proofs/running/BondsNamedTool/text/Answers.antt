use Rattle.std.proofs.Common.{[]}
use Rattle.std.proofs.lemmas.Result.{err_from_is_err_and}
use Rattle.tool_frame.proofs.Calling.{begins_none, makes_none}
use Rattle.tool_bond.proofs.running.BondsNamedTool.text.Goals as goal

-- no bench is called
pub returns-in_err-text-clause-calls : goal.returns-in_err-text-clause-calls
returns-in_err-text-clause-calls g c =
    let from = c.from_residual in
    let p = err_from_is_err_and from.result from.ensures.1 in
    rw p.1 (begins_none [] (g.B.Bench.count c.args._bench.now) (g.B.Bench.log c.args._bench.now))

pub returns-clause-calls : goal.returns-clause-calls
returns-clause-calls g c = makes_none (g.B.Bench.count c.args._bench.now) (g.B.Bench.log c.args._bench.now)
