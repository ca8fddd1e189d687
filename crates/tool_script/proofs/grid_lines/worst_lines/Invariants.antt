use Rattle.std.proofs.Common.{◌≡◌, ◌++◌, ◌-◌, ◌≤◌, drop, length}
use Rattle.tool_script.specs.Grid.{worst_lines}
use Rattle.tool_script.specs.Shown.{rows_in}
use Rattle.tool_script.proofs.grid_lines.worst_lines.Given as goal

-- the lines of the asks before this one are written
abbrev pub invariant-loop-at : goal.invariant-loop-at
invariant-loop-at l = record {
  within : l.at ≤ length l.asks;
  lines : l.initial.out.items ++ worst_lines l.names (rows_in l.rows) 0 l.asks
      ≡ l.out.items ++ worst_lines l.names (rows_in l.rows) l.at (drop l.at l.asks);
}

abbrev pub decreases-loop-at : goal.decreases-loop-at
decreases-loop-at l = length l.asks - l.at
