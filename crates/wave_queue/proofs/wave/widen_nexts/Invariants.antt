use Rattle.std.proofs.Common.{◌≡◌, ◌+◌, ◌++◌}
use Rattle.std.specs.Prelude.{replicate, vec_capacity, vec_len}
use Rattle.wave_queue.proofs.wave.widen_nexts.Given as goal

abbrev pub invariant-loop : goal.invariant-loop
invariant-loop l = record {
  items : l.nexts.items ≡ l.initial.nexts.items ++ replicate l.counter 0;
  len : vec_len l.nexts ≡ vec_len l.initial.nexts + l.counter;
  room : vec_capacity l.nexts ≡ vec_capacity l.initial.nexts;
}
