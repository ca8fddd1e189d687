use Rattle.std.proofs.Common.{◌≡◌, ℕ, List, ◌++◌, length}
use Rattle.desk_edge.specs.Sink.{appended}
use Rattle.tool_live.specs.Answers.{Hears}
use Rattle.tool_live.specs.Hearing.{IsOpen}
use Rattle.tool_live.proofs.hearing.hear.Given as goal

abbrev pub invariant-loop-end : goal.invariant-loop-end
invariant-loop-end g l = record {
  kept : g.A.Answerer.kept l.answerer ≡ g.A.Answerer.kept l.initial.answerer;
  can : g.A.Answerer.can l.answerer;
  done : List ℕ;
  whole : l.piece ≡ done ++ l.rest;
  heard : (part : List ℕ) → IsOpen part l.initial.line.items → (now : List ℕ) × IsOpen now l.line.items
      × Hears part done now (g.A.Answerer.told l.initial.answerer) (g.A.Answerer.told l.answerer)
      (g.A.Answerer.called l.initial.answerer) (g.A.Answerer.called l.answerer)
      (appended l.initial.answers.items (g.K.Sink.bytes l.initial.out)) (appended l.answers.items (g.K.Sink.bytes l.out));
  grows : (said : List ℕ) × (g.K.Sink.bytes l.out ≡ appended said (g.K.Sink.bytes l.initial.out));
  faults : g.K.Sink.faults l.out ≡ g.K.Sink.faults l.initial.out;
}

abbrev pub decreases-loop-end : goal.decreases-loop-end
decreases-loop-end g l = length l.rest
