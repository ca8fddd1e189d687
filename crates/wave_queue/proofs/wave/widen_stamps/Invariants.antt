use Rattle.std.proofs.Common.{◌≡◌, ◌+◌, ◌++◌}
use Rattle.std.specs.Prelude.{replicate, vec_capacity, vec_len}
use Rattle.wave_queue.proofs.wave.widen_stamps.Given as goal

abbrev pub invariant-loop : goal.invariant-loop
invariant-loop l = record {
  items : l.stamps.items ≡ l.initial.stamps.items ++ replicate l.counter 0;
  len : vec_len l.stamps ≡ vec_len l.initial.stamps + l.counter;
  room : vec_capacity l.stamps ≡ vec_capacity l.initial.stamps;
}
