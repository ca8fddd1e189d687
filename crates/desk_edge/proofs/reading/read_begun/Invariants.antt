use Rattle.std.proofs.Common.{length, ◌+◌, ◌-◌, ◌≡◌, ◌≤◌}
use Rattle.desk_edge.specs.Shelf.{most_bytes, put_back}
use Rattle.desk_edge.proofs.reading.read_begun.Given as goal

abbrev pub invariant-loop : goal.invariant-loop
invariant-loop g l = record {
  most : length l.out.items ≤ most_bytes;
  piece : length l.buf ≤ 4096;
  kept : put_back l.out.items (g.H.Shelf.contents l.shelf) ≡ g.H.Shelf.contents l.initial.shelf;
  calls : g.H.Shelf.calls l.shelf ≤ g.H.Shelf.calls l.initial.shelf + length l.out.items;
  faults : g.H.Shelf.faults l.shelf ≡ g.H.Shelf.faults l.initial.shelf;
  misses : g.H.Shelf.misses l.initial.shelf ≤ g.H.Shelf.misses l.shelf;
}

abbrev pub decreases-loop : goal.decreases-loop
decreases-loop g l = most_bytes - length l.out.items
