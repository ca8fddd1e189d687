use Rattle.std.proofs.Common.{◌≡◌, ◌≤◌, drop, length}
use Rattle.std.specs.Prelude.{option_map}
use Rattle.tool_script.specs.Grid.{column}
use Rattle.tool_script.specs.Worst.{worst_of}
use Rattle.tool_script.specs.Shown.{rows_in, worst_in}
use Rattle.tool_script.proofs.worst.worst_of.Given as goal

-- the worst of those behind is found
abbrev pub invariant-loop-left : goal.invariant-loop-left
invariant-loop-left l = record {
  within : l.left ≤ length l.rows;
  found : option_map worst_in l.worst ≡ worst_of (column l.at (rows_in (drop l.left l.rows)));
}

abbrev pub decreases-loop-left : goal.decreases-loop-left
decreases-loop-left l = l.left
