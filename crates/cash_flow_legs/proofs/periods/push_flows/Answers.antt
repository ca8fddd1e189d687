use Rattle.std.proofs.Common.{◌≡◌, ◌∙◌, ap, sym, List, [], ◌∷◌, ◌++◌, pos}
use Rattle.std.proofs.lemmas.List.{append_assoc, append-nil}
use Rattle.std.proofs.lemmas.List.Elements.{All-push}
use Rattle.flow_terms.specs.declared.flows.FlowTerm.{FlowTerm}
use Rattle.flow_terms.specs.Ranges.{IsFlow}
use Rattle.cash_flow_legs.specs.Legs.{flow_of}
use Rattle.cash_flow_legs.proofs.PeriodLemmas.{period_order, periods_more, periods_none, periods_done, periods_begin}
use Rattle.cash_flow_legs.proofs.periods.push_flows.Goals as goal

pub loop-at-init : goal.loop-at-init
loop-at-init c = record {
  done = [];
  out = sym (append-nil c.args.out.now);
  due = periods_begin (flow_of c.args.leg.now) c.args.days.now (pos 0) c.requires.count;
  range = λ were. were;
}

pub period_flow-requires-clause-order : goal.period_flow-requires-clause-order
period_flow-requires-clause-order c =
    period_order c.args.days.now c.loop-at.at c.index-days-at.result c.index-days-at-in-loop-at.result c.requires.rising c.loop-at.auto.at c.loop-at-test.true c.index-days-at.is c.index-days-at-in-loop-at.is

pub returns-in_default-clause-flows : goal.returns-in_default-clause-flows
returns-in_default-clause-flows c = (
  periods_none (flow_of c.args.leg.now) c.args.days.now c.loop-at.at c.index-days-at.result c.index-days-at-in-loop-at.result c.loop-at.invariant.done _
      c.loop-at-test.true c.index-days-at.is c.index-days-at-in-loop-at.is c.loop-at.invariant.due (sym c.period_flow.ensures.flow ∙ c.in_default.is),
  (c.loop-at.invariant.done, c.loop-at.invariant.out),
)

pub loop-at-preserved : goal.loop-at-preserved
loop-at-preserved c =
    let pushed : c.push.new.self ≡ c.loop-at.out ++ c.in-Some.flow ∷ [] = c.in_ok-push.ensures.ok in
    record {
      done = c.loop-at.invariant.done ++ c.in-Some.flow ∷ [];
      out = pushed ∙ (ap (λ (fs : List FlowTerm). fs ++ c.in-Some.flow ∷ []) c.loop-at.invariant.out ∙ append_assoc c.args.out.now c.loop-at.invariant.done (c.in-Some.flow ∷ []));
      due = periods_more (flow_of c.args.leg.now) c.args.days.now c.loop-at.at c.index-days-at.result c.index-days-at-in-loop-at.result c.loop-at.invariant.done c.in-Some.flow _
          c.loop-at-test.true c.index-days-at.is c.index-days-at-in-loop-at.is c.loop-at.invariant.due (sym c.period_flow.ensures.flow ∙ c.in-Some.is);
      range = λ were. rw pushed (All-push IsFlow c.loop-at.out c.in-Some.flow (c.loop-at.invariant.range were) c.in-Some.ensures.range);
    }

pub returns-clause-flows : goal.returns-clause-flows
returns-clause-flows c =
    (c.loop-at.invariant.done, periods_done (flow_of c.args.leg.now) c.args.days.now c.loop-at.at _ c.loop-at.invariant.done _ c.loop-at-test.false c.loop-at.invariant.due, c.loop-at.invariant.out)
