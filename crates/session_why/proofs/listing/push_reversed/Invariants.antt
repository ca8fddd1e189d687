use Rattle.std.proofs.Common.{◌≡◌, ◌++◌, ◌≤◌, length, take}
use Rattle.std.specs.Prelude.{reverse}
use Rattle.session_why.proofs.listing.push_reversed.Given as goal

-- the objects from the one at hand on are there, the last first
abbrev pub invariant-loop-at : goal.invariant-loop-at
invariant-loop-at l = record {
  within : l.at ≤ length l.objects;
  there : l.waiting.items ++ reverse (take l.at l.objects) ≡ l.initial.waiting.items ++ reverse l.objects;
}

abbrev pub decreases-loop-at : goal.decreases-loop-at
decreases-loop-at l = l.at
