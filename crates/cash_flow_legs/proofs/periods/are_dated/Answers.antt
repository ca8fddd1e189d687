use Rattle.std.proofs.Common.{◌∙◌, ap, sym, List, [], ◌∷◌, ◌++◌, Option, pos, is_some}
use Rattle.flow_terms.specs.declared.flows.FlowTerm.{FlowTerm}
use Rattle.cash_flow_legs.specs.Legs.{flow_of}
use Rattle.cash_flow_legs.proofs.PeriodLemmas.{period_order, periods_more, periods_none, periods_done, periods_begin}
use Rattle.cash_flow_legs.proofs.periods.are_dated.Goals as goal

pub loop-at-init : goal.loop-at-init
loop-at-init c = record {
  done = [];
  due = periods_begin (flow_of c.args.leg.now) c.args.days.now (pos 0) c.requires.count;
}

pub period_flow-requires-clause-order : goal.period_flow-requires-clause-order
period_flow-requires-clause-order c =
    period_order c.args.days.now c.loop-at.at c.index-days-at.result c.index-days-at-in-loop-at.result c.requires.rising c.loop-at.auto.at c.loop-at-test.true c.index-days-at.is c.index-days-at-in-loop-at.is

pub returns-in_default : goal.returns-in_default
returns-in_default c =
    let none = periods_none (flow_of c.args.leg.now) c.args.days.now c.loop-at.at c.index-days-at.result c.index-days-at-in-loop-at.result c.loop-at.invariant.done _
    c.loop-at-test.true c.index-days-at.is c.index-days-at-in-loop-at.is c.loop-at.invariant.due (sym c.period_flow.ensures.flow ∙ c.in_default.is) in
    sym (ap (λ (o : Option (List FlowTerm)). is_some o) none)

pub loop-at-preserved : goal.loop-at-preserved
loop-at-preserved c = record {
  done = c.loop-at.invariant.done ++ c.in-Some.field-0 ∷ [];
  due = periods_more (flow_of c.args.leg.now) c.args.days.now c.loop-at.at c.index-days-at.result c.index-days-at-in-loop-at.result c.loop-at.invariant.done c.in-Some.field-0 _
      c.loop-at-test.true c.index-days-at.is c.index-days-at-in-loop-at.is c.loop-at.invariant.due (sym c.period_flow.ensures.flow ∙ c.in-Some.is);
}

pub returns : goal.returns
returns c =
    let all = periods_done (flow_of c.args.leg.now) c.args.days.now c.loop-at.at _ c.loop-at.invariant.done _ c.loop-at-test.false c.loop-at.invariant.due in
    sym (ap (λ (o : Option (List FlowTerm)). is_some o) all)
