use Rattle.std.proofs.lemmas.Result.{err_from_is_err_and}
use Rattle.tool_script.proofs.Calling.{makes_begins}
use Rattle.tool_runs.proofs.explain_steps.lines_in.Goals as goal

pub returns-in_err-rows-clause-calls : goal.returns-in_err-rows-clause-calls
returns-in_err-rows-clause-calls g c =
    let from = c.from_residual in
    let p = err_from_is_err_and from.result from.ensures.1 in
    rw p.1 c.in_err-rows.ensures.calls

pub returns-in_err-gain_lines-clause-calls : goal.returns-in_err-gain_lines-clause-calls
returns-in_err-gain_lines-clause-calls g c =
    let from = c.from_residual-in_err-gain_lines in
    let p = err_from_is_err_and from.result from.ensures.1 in
    rw p.1 (makes_begins _ (g.B.Bench.count c.args.bench.now) (g.B.Bench.count c.all_steps.new.bench)
    (g.B.Bench.log c.args.bench.now) (g.B.Bench.log c.all_steps.new.bench) c.in_ok-rows.ensures.calls)
