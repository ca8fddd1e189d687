use Rattle.std.proofs.Common.{◌≡◌, ◌<◌, ℕ}
use Rattle.std.specs.Prelude.{slice_index_or}
use Rattle.wave_queue.proofs.wave.wipe.Given as goal

abbrev pub invariant-loop-at : goal.invariant-loop-at
invariant-loop-at l = (o : ℕ) → o < l.at → slice_index_or l.stamps.items o 0 ≡ 0
