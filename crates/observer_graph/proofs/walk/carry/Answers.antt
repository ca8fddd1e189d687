use Rattle.std.proofs.Common.{◌≡◌, ◌∙◌, [], ◌∷◌, ◌++◌, inr, ap, refl, sym, true, false, List, Bool, ℕ, Some}
use Rattle.wave_queue.specs.Thread.{is_marked}
use Rattle.wave_queue.proofs.Threads.{marked_more}
use Rattle.observer_graph.specs.Puts.{carrying}
use Rattle.observer_graph.proofs.Filling.{puts_more, puts_none}
use Rattle.observer_graph.proofs.walk.carry.Goals as goal

pub returns-then-mark-clause-puts : goal.returns-then-mark-clause-puts
returns-then-mark-clause-puts c = puts_more c.args.wave.now c.args.wave.now
    (carrying (Some c.args.told) c.mark.new.self) (λ o. o ≡ c.args.told) c.args.told true
    (puts_none c.args.wave.now (λ o. o ≡ c.args.told)) refl c.requires (sym c.if-mark.true ∙ c.mark.ensures.was)
    c.mark.ensures.marks
    (ap (λ (xs : List ℕ). xs ++ c.args.told ∷ []) c.mark.ensures.waiting)

pub returns-then-mark-clause-done : goal.returns-then-mark-clause-done
returns-then-mark-clause-done c = ap (λ (m : List Bool). is_marked m c.args.told) c.mark.ensures.marks
    ∙ (marked_more c.args.wave.now.marks c.args.told c.args.told c.requires).1 (inr refl)

pub returns-then-mark-clause-marked : goal.returns-then-mark-clause-marked
returns-then-mark-clause-marked c = ap (λ (m : List Bool). is_marked m c.args.told) c.mark.ensures.marks
    ∙ (marked_more c.args.wave.now.marks c.args.told c.args.told c.requires).1 (inr refl)

pub returns-else-mark-clause-puts : goal.returns-else-mark-clause-puts
returns-else-mark-clause-puts c = puts_more c.args.wave.now c.args.wave.now c.mark.new.self (λ o. o ≡ c.args.told)
    c.args.told false (puts_none c.args.wave.now (λ o. o ≡ c.args.told)) refl c.requires
    (sym c.if-mark.false ∙ c.mark.ensures.was) c.mark.ensures.marks c.mark.ensures.waiting

pub returns-else-mark-clause-done : goal.returns-else-mark-clause-done
returns-else-mark-clause-done c = ap (λ (m : List Bool). is_marked m c.args.told) c.mark.ensures.marks
    ∙ (marked_more c.args.wave.now.marks c.args.told c.args.told c.requires).1 (inr refl)
