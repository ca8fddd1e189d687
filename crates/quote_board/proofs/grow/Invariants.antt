use Rattle.std.proofs.Common.{◌-◌, ◌≤◌, length}
use Rattle.quote_board.specs.Board.{IsSame}
use Rattle.quote_board.proofs.grow.Given as goal

abbrev pub invariant-loop-entries : goal.invariant-loop-entries
invariant-loop-entries l = record {
  same : IsSame l.initial.entries.items l.entries.items;
  grows : length l.initial.entries.items ≤ length l.entries.items;
}

abbrev pub decreases-loop-entries : goal.decreases-loop-entries
decreases-loop-entries l = l.count - length l.entries.items
