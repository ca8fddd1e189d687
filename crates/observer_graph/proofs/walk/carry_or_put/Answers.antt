use Rattle.std.proofs.Common.{◌≡◌, ◌∙◌, inr, ap, refl, true, List, Bool}
use Rattle.wave_queue.specs.Thread.{is_marked}
use Rattle.wave_queue.proofs.Threads.{marked_more}
use Rattle.observer_graph.proofs.Filling.{if_some_of, puts_more, puts_none}
use Rattle.observer_graph.proofs.walk.carry_or_put.Goals as goal

pub returns-then-is_last-clause-puts : goal.returns-then-is_last-clause-puts
returns-then-is_last-clause-puts c = c.carry.ensures.puts

pub returns-then-is_last-clause-carried : goal.returns-then-is_last-clause-carried
returns-then-is_last-clause-carried c = if_some_of c.carry.result (c.args.is_last ≡ true) c.if-is_last.true

pub returns-else-is_last-clause-puts : goal.returns-else-is_last-clause-puts
returns-else-is_last-clause-puts c = puts_more c.args.wave.now c.args.wave.now c.push.new.self (λ o. o ≡ c.args.told)
    c.args.told c.push.result (puts_none c.args.wave.now (λ o. o ≡ c.args.told)) refl c.requires c.push.ensures.was
    c.push.ensures.marks c.push.ensures.waiting

pub returns-else-is_last-clause-done : goal.returns-else-is_last-clause-done
returns-else-is_last-clause-done c = ap (λ (m : List Bool). is_marked m c.args.told) c.push.ensures.marks
    ∙ (marked_more c.args.wave.now.marks c.args.told c.args.told c.requires).1 (inr refl)
