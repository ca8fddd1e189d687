use Rattle.std.proofs.Common.{◌∙◌, sym, ap, List, [], ◌∷◌, ◌++◌, Result, option_copied}
use Rattle.desk_terms.specs.declared.cause.Cause.{Cause}
use Rattle.flow_terms.specs.Flows.{paid_on}
use Rattle.cash_flow_legs.specs.declared.live_flows.Flow.{Flow}
use Rattle.cash_flow_legs.specs.Amount.{views_of, amount_of}
use Rattle.cash_flow_legs.specs.Live.{is_live, cause_of}
use Rattle.cash_flow_legs.proofs.LiveLemmas.{found, refused, skipped, finished, joined, joined_none}
use Rattle.cash_flow_legs.proofs.live_flows.first_cause.Goals as goal
use Rattle.cash_flow_legs.proofs.live_flows.first_cause.Goals.{then-is_live+in-Ok, else-is_live}

pub loop-flow-init : goal.loop-flow-init
loop-flow-init c = record { done = []; due = joined_none _ }

pub returns-in-Err : goal.returns-in-Err
returns-in-Err c =
    let amount = amount_of (views_of (option_copied c.args.index)) c.args.today (option_copied c.args.curve) c.args.owner in
    let cause = refused amount (is_live c.args.today c.args.after) c.args.terms.now c.loop-flow.flow-index c.flow-item.result c.loop-flow.invariant.done c.in-Err.cause
    c.loop-flow-test.true c.flow-item.is (sym c.is_live.ensures ∙ c.if-is_live.true) (sym c.in-Err.ensures.value) in
    sym (ap (λ (flows : Result (List Flow) Cause). cause_of flows) (c.loop-flow.invariant.due ∙ cause))

pub loop-flow-preserved : goal.loop-flow-preserved
loop-flow-preserved c =
    let amount = amount_of (views_of (option_copied c.args.index)) c.args.today (option_copied c.args.curve) c.args.owner in
    let live = is_live c.args.today c.args.after in
    elim c.if-is_live.branch [
      | then-is_live+in-Ok w ↦ record {
        done = c.loop-flow.invariant.done ++ record { paid = paid_on c.flow-item.result; amount = w.in-Ok.field-0 } ∷ [];
        due = c.loop-flow.invariant.due ∙ found amount live c.args.terms.now c.loop-flow.flow-index c.flow-item.result c.loop-flow.invariant.done w.in-Ok.field-0
            c.loop-flow-test.true c.flow-item.is (sym c.is_live.ensures ∙ w.if-is_live.true) (sym w.in-Ok.ensures.value);
      }
      | else-is_live w ↦ record {
        done = c.loop-flow.invariant.done;
        due = c.loop-flow.invariant.due ∙ ap (joined c.loop-flow.invariant.done) (skipped amount live c.args.terms.now c.loop-flow.flow-index c.flow-item.result
            c.loop-flow-test.true c.flow-item.is (sym c.is_live.ensures ∙ w.if-is_live.false));
      }
    ]

pub returns : goal.returns
returns c =
    let amount = amount_of (views_of (option_copied c.args.index)) c.args.today (option_copied c.args.curve) c.args.owner in
    let all = finished amount (is_live c.args.today c.args.after) c.args.terms.now c.loop-flow.flow-index c.loop-flow.invariant.done c.loop-flow-test.false in
    sym (ap (λ (flows : Result (List Flow) Cause). cause_of flows) (c.loop-flow.invariant.due ∙ all))
