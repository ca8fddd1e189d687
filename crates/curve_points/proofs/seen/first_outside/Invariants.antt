use Rattle.std.proofs.Common.{◌≡◌, take, None}
use Rattle.std.specs.List.{position_from}
use Rattle.curve_points.specs.Implied.{all_seen, is_outside}
use Rattle.curve_points.proofs.seen.first_outside.Given as goal

abbrev pub invariant-loop-at : goal.invariant-loop-at
invariant-loop-at l = position_from is_outside 1 (all_seen l.factor (take l.at l.nodes)) ≡ None
