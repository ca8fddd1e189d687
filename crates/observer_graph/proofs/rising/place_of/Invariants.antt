use Rattle.std.proofs.Common.{◌-◌, ◌<◌, ◌≤◌, length, ℕ, get_or}
use Rattle.observer_graph.proofs.rising.place_of.Given as goal

-- those before `low` are before the watcher, and those from `high` on are not
abbrev pub invariant-loop-low : goal.invariant-loop-low
invariant-loop-low l = record {
  low : l.low ≤ l.high;
  high : l.high ≤ length l.nodes.items;
  before : (i : ℕ) (d : ℕ) → i < l.low → get_or l.nodes.items i d < l.node;
  from : (i : ℕ) (d : ℕ) → l.high ≤ i → i < length l.nodes.items → l.node ≤ get_or l.nodes.items i d;
}

abbrev pub decreases-loop-low : goal.decreases-loop-low
decreases-loop-low l = l.high - l.low
