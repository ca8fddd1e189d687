use Rattle.graph_vectors.specs.Watched.{HasRoom}
use Rattle.graph_vectors.proofs.rounds.play.Given as goal

abbrev pub invariant-loop-row : goal.invariant-loop-row
invariant-loop-row g l = record {
  next : (goal.iterator-loop-row g).can_next l.row-iterator;
  finite : (goal.iterator-loop-row g).is_finite l.row-iterator;
  room : HasRoom l.watched;
}
