use Rattle.std.proofs.Common.{◌≡◌, drop}
use Rattle.desk_model.specs.Next.{next_of}
use Rattle.object_store.specs.Slots.{answer_of, is_at_hand}
use Rattle.ask_walk.proofs.Members.{prepend}
use Rattle.ask_walk.proofs.turning.next_entries.Given as goal

abbrev pub invariant-loop-at : goal.invariant-loop-at
invariant-loop-at l = next_of (is_at_hand l.store.kept) (answer_of l.store.kept) l.entries ≡ prepend l.inputs (next_of (is_at_hand l.store.kept) (answer_of l.store.kept) (drop l.at l.entries))
