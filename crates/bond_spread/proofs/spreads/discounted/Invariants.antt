use Rattle.bond_spread.proofs.Flows.{Keeps}
use Rattle.bond_spread.proofs.spreads.discounted.Given as goal

abbrev pub invariant-loop-flow : goal.invariant-loop-flow
invariant-loop-flow l = Keeps l.curve l.settle l.base l.flows l.flow-index l.list
