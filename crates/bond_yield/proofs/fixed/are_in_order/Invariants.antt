use Rattle.std.proofs.Common.{◌≡◌, drop}
use Rattle.bond_yield.specs.Fixed.{are_in_order, rise_from}
use Rattle.bond_yield.proofs.fixed.are_in_order.Given as goal

abbrev pub invariant-loop-flow : goal.invariant-loop-flow
invariant-loop-flow l = are_in_order l.flows ≡ rise_from l.last (drop l.flow-index l.flows)
