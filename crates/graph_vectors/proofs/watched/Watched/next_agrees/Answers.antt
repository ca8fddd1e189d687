use Rattle.graph_vectors.proofs.Room.{room_ran}
use Rattle.graph_vectors.proofs.watched.Watched.next_agrees.Goals as goal

pub returns-then-eq : goal.returns-then-eq
returns-then-eq c = room_ran c.args.self.now c.next_due-next.new.self c.next_due-next.new.picker _ c.requires
    c.next_due-next.ensures.ran

pub returns-then-eq-2 : goal.returns-then-eq-2
returns-then-eq-2 c = room_ran c.args.self.now c.next_due-next.new.self c.next_due-next.new.picker _ c.requires
    c.next_due-next.ensures.ran

pub returns-else-eq-2 : goal.returns-else-eq-2
returns-else-eq-2 c = room_ran c.args.self.now c.next_due-next.new.self c.next_due-next.new.picker _ c.requires
    c.next_due-next.ensures.ran
