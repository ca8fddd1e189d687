use Rattle.load_maker.proofs.ForEach.{moves_step, picks_step}
use Rattle.load_maker.proofs.script.script_text.Goals as goal

pub loop-at-preserved : goal.loop-at-preserved
loop-at-preserved c =
    let n = c.args.n in
    let at = c.loop-at.at in
    let kept = c.loop-at.invariant in
    record {
      order = picks_step n at c.loop-at.order c.pick-quote.new.self kept.order c.pick-quote.ensures.after;
      text = moves_step n at c.pick-quote.result c.loop-at.order c.loop-at.text.items c.push_move.new.text.items kept.order
          kept.text c.pick-quote.ensures.at c.in_ok-push_move.ensures;
    }
