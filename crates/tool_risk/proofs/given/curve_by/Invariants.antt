use Rattle.std.proofs.Common.{◌≡◌, drop}
use Rattle.tool_risk.specs.Given.{curve_by}
use Rattle.tool_risk.proofs.given.curve_by.Given as goal

-- none of those before the one at hand is given by this one
abbrev pub invariant-loop-given : goal.invariant-loop-given
invariant-loop-given l = curve_by l.curves l.by ≡ curve_by (drop l.given-index l.curves) l.by
