use Rattle.std.proofs.Common.{◌≡◌, length}
use Rattle.std.specs.Prelude.{IfSome}
use Rattle.observer_graph.specs.Turns.{IsMarkedBelow, HasSomeObserver, HasSomeSubject, Descends, Ascends, left_up}
use Rattle.observer_graph.proofs.by_turns.leads_by_turns.Given as goal

abbrev pub invariant-loop-to : goal.invariant-loop-to
invariant-loop-to l = record {
  beneath_there : IfSome l.beneath (HasSomeObserver l.edges);
  above_there : IfSome l.above (HasSomeSubject l.edges);
  down_room : length l.down.marks ≡ length l.fn.down.marks;
  up_room : length l.up.marks ≡ length l.fn.up.marks;
  down_marks : IsMarkedBelow (length l.nodes) l.down;
  up_marks : IsMarkedBelow (length l.nodes) l.up;
  descends : Descends l.nodes l.edges l.fn.from l.down l.beneath;
  ascends : Ascends l.nodes l.edges l.fn.to l.up l.above;
}

abbrev pub decreases-loop-to : goal.decreases-loop-to
decreases-loop-to l = left_up l.edges l.up l.above
