use Rattle.std.proofs.Common.{◌≡◌, drop}
use Rattle.tool_risk.specs.FigureSums.{delta_at}
use Rattle.tool_risk.proofs.figure_sums.delta_at.Given as goal

-- no rung before the one at hand is this object's
abbrev pub invariant-loop-rung : goal.invariant-loop-rung
invariant-loop-rung l = delta_at (drop l.rung-index l.rungs) l.object ≡ delta_at l.rungs l.object
