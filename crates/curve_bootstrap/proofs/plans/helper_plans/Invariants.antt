use Rattle.std.proofs.Common.{All}
use Rattle.curve_bootstrap.specs.Kept.{IsPlan}
use Rattle.curve_bootstrap.proofs.plans.helper_plans.Given as goal

abbrev pub invariant-loop-helper : goal.invariant-loop-helper
invariant-loop-helper l = All (IsPlan l.calendar l.reference) l.plans.items
