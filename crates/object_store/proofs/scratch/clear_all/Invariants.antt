use Rattle.std.proofs.Common.{◌≡◌, drop, length}
use Rattle.object_store.specs.Scratch.{AreTouched}
use Rattle.object_store.proofs.scratch.clear_all.Given as goal

abbrev pub invariant-loop-at : goal.invariant-loop-at
invariant-loop-at l = AreTouched l.entries (drop l.at l.touched) × (length l.entries ≡ length l.initial.entries)
