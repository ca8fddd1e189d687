use Rattle.tool_script.proofs.ReadingSteps.{script_err}
use Rattle.tool_script.proofs.reading.scripted.Goals as goal

pub returns-in-Err-clause-says : goal.returns-in-Err-clause-says
returns-in-Err-clause-says c = rw c.script_status.ensures (script_err c.in-Err.fault _ _ c.in-Err.ensures.gives)
