use Rattle.graph_vectors.specs.Moves.{IsMovable}
use Rattle.graph_vectors.proofs.moves.rows_agree.Given as goal

abbrev pub invariant-loop-row : goal.invariant-loop-row
invariant-loop-row l = record {
  next : (goal.iterator-loop-row).can_next l.row-iterator;
  finite : (goal.iterator-loop-row).is_finite l.row-iterator;
  movable : IsMovable l.links l.graph l.holder;
}
