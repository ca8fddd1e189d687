use Rattle.tool_script.proofs.ReadingSteps.{market_err}
use Rattle.tool_script.proofs.loading.opened.Goals as goal

pub returns-in-Err-clause-says : goal.returns-in-Err-clause-says
returns-in-Err-clause-says c = rw c.market_status.ensures (market_err c.in-Err.fault _ c.in-Err.ensures.market)
