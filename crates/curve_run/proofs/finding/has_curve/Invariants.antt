use Rattle.std.proofs.Common.{◌≡◌}
use Rattle.curve_run.specs.Named.{curve_below}
use Rattle.curve_run.proofs.finding.has_curve.Given as goal

-- whether any of the objects before the number at hand is a curve is known
abbrev pub invariant-loop-number : goal.invariant-loop-number
invariant-loop-number l = l.found ≡ curve_below l.desk.market l.number
