use Rattle.graph_vectors.specs.Watched.{HasRoom}
use Rattle.graph_vectors.proofs.watched.Watched.round_agrees.Given as goal

abbrev pub invariant-loop-step : goal.invariant-loop-step
invariant-loop-step l = record {
  next : (goal.iterator-loop-step).can_next l.step-iterator;
  finite : (goal.iterator-loop-step).is_finite l.step-iterator;
  room : HasRoom l.self;
}
