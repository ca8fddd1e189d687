use Rattle.std.proofs.Common.{ℕ, [], Result, Ok, Err}
use Rattle.tool_frame.specs.Calls.{Calls}
use Rattle.tool_frame.specs.Stage.{Log}
use Rattle.tool_frame.proofs.Calling.{begins_none, makes_none}
use Rattle.tool_bond.proofs.running.BondsTool.text.Goals as goal

-- no bench is called
calls_none : {A E : Type 0} → (result : Result A E) (count : ℕ) (log : Log) → Calls [] result count count log log
calls_none (Ok lines) count log = makes_none count log
calls_none (Err fault) count log = begins_none [] count log

pub returns-clause-calls : goal.returns-clause-calls
returns-clause-calls g c = calls_none c.lines_in.result (g.B.Bench.count c.args._bench.now) (g.B.Bench.log c.args._bench.now)
