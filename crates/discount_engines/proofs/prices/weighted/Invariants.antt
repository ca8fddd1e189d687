use Rattle.std.proofs.Common.{◌≡◌, ◌≤◌, ◌*◌, ◌^◌, Some, drop}
use Rattle.std.specs.Int.RustNames.{unsigned_abs}
use Rattle.discount_engines.specs.Composite.{plus, weighted}
use Rattle.discount_engines.proofs.prices.weighted.Given as goal

abbrev pub invariant-loop-at : goal.invariant-loop-at
invariant-loop-at l = (plus (Some l.sum) (weighted (drop l.at l.parts) (drop l.at l.inputs)) ≡ weighted l.parts l.inputs) × (unsigned_abs l.sum ≤ l.at * 10 ^ 32)
