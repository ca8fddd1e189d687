use Rattle.tool_frame.specs.Market.{market_in}
use Rattle.tool_script.proofs.ReadingSteps.{script_found, script_lost}
use Rattle.tool_script.proofs.reading.open_script.Goals as goal

pub returns-in-Ok-clause-reads : goal.returns-in-Ok-clause-reads
returns-in-Ok-clause-reads g c =
    script_found (market_in c.args.market) c.args.path.now _ _ c.in-Ok.text c.scripted.result c.in-Ok.ensures.reads
    (rw c.deref.ensures.value at c.scripted.ensures.says)

pub returns-in-Err-clause-reads : goal.returns-in-Err-clause-reads
returns-in-Err-clause-reads g c =
    rw c.file_status.ensures (script_lost (market_in c.args.market) c.args.path.now _ _ c.in-Err.fault c.in-Err.ensures.reads)
