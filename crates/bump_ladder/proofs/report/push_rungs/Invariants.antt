use Rattle.std.proofs.Common.{◌≡◌, ◌++◌, drop}
use Rattle.bump_ladder.specs.Report.{rung_lines}
use Rattle.bump_ladder.proofs.report.push_rungs.Given as goal

-- the rungs before the one at hand are written
abbrev pub invariant-loop-rung : goal.invariant-loop-rung
invariant-loop-rung l =
    l.lines.items ++ rung_lines l.namer.names.now l.namer.of_object.now (drop l.rung-index l.rungs)
    ≡ l.initial.lines.items ++ rung_lines l.namer.names.now l.namer.of_object.now l.rungs
