use Rattle.std.proofs.Common.{◌≡◌}
use Rattle.ask_walk.specs.Begun.{HasRead}
use Rattle.ask_walk.proofs.turning.next_member.Given as goal

abbrev pub invariant-loop-at : goal.invariant-loop-at
invariant-loop-at l = (l.begun.object ≡ l.initial.begun.object) × HasRead l.store.kept l.parts l.at l.sum
