use Rattle.session_lang.proofs.Blocks.{block_printed}
use Rattle.session_lang.proofs.print.push_blocks.Goals as goal

pub loop-at-preserved : goal.loop-at-preserved
loop-at-preserved c = block_printed c.args.names.now c.args.action_names.now c.loop-at.at c.args.actions.now c.get.result.now c.items.result.now c.loop-at.out.items c.push_block.new.out.items _ c.get.ensures c.items.ensures c.in_ok-push_block.ensures c.loop-at.invariant
