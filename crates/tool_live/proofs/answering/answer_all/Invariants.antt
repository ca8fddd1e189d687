use Rattle.std.proofs.Common.{◌≡◌, ℕ, List, [], vec_len}
use Rattle.std.specs.Io.KnownBytes.{Consumes}
use Rattle.desk_edge.specs.Sink.{appended}
use Rattle.tool_live.specs.Answers.{Hears}
use Rattle.tool_live.specs.Hearing.{IsOpen}
use Rattle.tool_live.proofs.answering.answer_all.Given as goal

abbrev pub invariant-loop : goal.invariant-loop
invariant-loop g l = record {
  kept : g.A.Answerer.kept l.answerer ≡ g.A.Answerer.kept l.initial.answerer;
  can : g.A.Answerer.can l.answerer;
  none : l.answers.items ≡ [];
  sent : g.K.Sink.sent l.out ≡ g.K.Sink.bytes l.out;
  heard : (heard : List ℕ) × (part : List ℕ) × Consumes (g.F.Feed.content l.initial.feed) (g.F.Feed.content l.feed) heard × IsOpen part l.line.items
      × Hears [] heard part (g.A.Answerer.told l.initial.answerer) (g.A.Answerer.told l.answerer)
      (g.A.Answerer.called l.initial.answerer) (g.A.Answerer.called l.answerer) (g.K.Sink.bytes l.initial.out) (g.K.Sink.bytes l.out);
  grows : (said : List ℕ) × (g.K.Sink.bytes l.out ≡ appended said (g.K.Sink.bytes l.initial.out));
  room : vec_len l.room ≡ 65_536;
  faults : (g.K.Sink.faults l.out ≡ g.K.Sink.faults l.initial.out) × (g.F.Feed.faults l.feed ≡ g.F.Feed.faults l.initial.feed);
}
