use Rattle.std.proofs.Common.{length, ◌-◌, ◌≡◌, ◌≤◌, [], take}
use Rattle.desk_edge.specs.Sink.{appended}
use Rattle.desk_edge.proofs.writing.write_whole.Given as goal

abbrev pub invariant-loop-at : goal.invariant-loop-at
invariant-loop-at g l = record {
  within : l.at ≤ length l.bytes;
  put : g.K.Sink.bytes l.sink ≡ appended (take l.at l.bytes) (g.K.Sink.bytes l.initial.sink);
  faults : g.K.Sink.faults l.sink ≡ g.K.Sink.faults l.initial.sink;
  nothing : l.bytes ≡ [] → l.sink ≡ l.initial.sink;
}

abbrev pub decreases-loop-at : goal.decreases-loop-at
decreases-loop-at g l = length l.bytes - l.at
