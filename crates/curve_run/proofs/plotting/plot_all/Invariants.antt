use Rattle.std.proofs.Common.{◌≡◌, ◌++◌, drop}
use Rattle.curve_run.specs.Plotting.{plotted_lines, unplotted}
use Rattle.curve_run.proofs.plotting.plot_all.Given as goal

-- the lines of the curves before the one at hand are there
abbrev pub invariant-loop-curve : goal.invariant-loop-curve
invariant-loop-curve l = record {
  same : l.desk ≡ l.initial.desk;
  lines : l.plotted.lines.items ++ plotted_lines l.plot l.initial.desk.market (drop l.curve-index l.curves) ≡ plotted_lines l.plot l.initial.desk.market l.curves;
  refused : l.plotted.refused.items ++ unplotted l.namer.names.now l.namer.of_object.now l.plot l.initial.desk.market (drop l.curve-index l.curves)
      ≡ unplotted l.namer.names.now l.namer.of_object.now l.plot l.initial.desk.market l.curves;
}
