use Rattle.std.proofs.Common.{◌≡◌, ◌++◌, ◌-◌, ◌≤◌, drop, length}
use Rattle.tool_risk.specs.Lines.{rungs_rows}
use Rattle.tool_risk.proofs.lines.push_rungs.Given as goal

-- the rungs before this one are written
abbrev pub invariant-loop-at : goal.invariant-loop-at
invariant-loop-at l = record {
  within : l.at ≤ length l.bumps;
  lines : l.initial.lines.items ++ rungs_rows l.namer.names.now l.namer.of_object.now l.object l.rungs l.bumps l.rungs
      ≡ l.lines.items ++ rungs_rows l.namer.names.now l.namer.of_object.now l.object l.rungs (drop l.at l.bumps) (drop l.at l.rungs);
}

abbrev pub decreases-loop-at : goal.decreases-loop-at
decreases-loop-at l = length l.bumps - l.at
