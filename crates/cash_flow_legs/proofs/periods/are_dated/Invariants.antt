use Rattle.std.proofs.Common.{◌≡◌, ◌-◌, List, get_or, drop, pos}
use Rattle.flow_terms.specs.declared.flows.FlowTerm.{FlowTerm}
use Rattle.cash_flow_legs.specs.Legs.{flow_of, periods_from, each_period}
use Rattle.cash_flow_legs.proofs.AppendLemmas.{behind}
use Rattle.cash_flow_legs.proofs.periods.are_dated.Given as goal

abbrev pub invariant-loop-at : goal.invariant-loop-at
invariant-loop-at l = record {
  done : List FlowTerm;
  due : each_period (flow_of l.leg) l.days ≡ behind done (periods_from (flow_of l.leg) (get_or l.days (l.at - 1) (pos 0)) (drop l.at l.days));
}
