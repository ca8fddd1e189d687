use Rattle.std.proofs.Common.{◌≡◌, ◌-◌, ◌≤◌, length, take}
use Rattle.desk_model.specs.Market.{each_once}
use Rattle.session_graph.proofs.edges.each_once.Given as goal

-- the objects before the one at hand are there, each once
abbrev pub invariant-loop-at : goal.invariant-loop-at
invariant-loop-at l = record {
  within : l.at ≤ length l.objects;
  once : l.once.items ≡ each_once (take l.at l.objects);
}

abbrev pub decreases-loop-at : goal.decreases-loop-at
decreases-loop-at l = length l.objects - l.at
