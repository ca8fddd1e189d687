use Rattle.std.proofs.Common.{◌≡◌, drop}
use Rattle.desk_edge.specs.Shelf.{file_at}
use Rattle.desk_edge.proofs.lists.place_of.Given as goal

abbrev pub invariant-loop-at : goal.invariant-loop-at
invariant-loop-at l = file_at (drop l.at l.items) l.path ≡ file_at l.items l.path
