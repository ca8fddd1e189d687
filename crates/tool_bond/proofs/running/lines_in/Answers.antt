use Rattle.tool_bond.specs.Lines.{market_text}
use Rattle.tool_bond.proofs.running.lines_in.Goals as goal

pub returns : goal.returns
unfolding market_text
returns g c = rw (← c.as_bytes.ensures.value) (rw c.new-lines.ensures.items at c.in_ok-push_name.ensures)
