use Rattle.std.proofs.Common.{◌≡◌, ◌∙◌, arith, sym, ap, [], ◌∷◌, ◌++◌, ℤ, option_copied}
use Rattle.std.proofs.lemmas.List.{length_push}
use Rattle.std.proofs.lemmas.List.Elements.{All-push}
use Rattle.jiff_core.specs.Calendar.{IsWithin}
use Rattle.flow_terms.specs.declared.limits.TheConstants.{MOST_AMOUNT}
use Rattle.flow_terms.specs.Flows.{paid_on}
use Rattle.cash_flow_legs.specs.declared.live_flows.Flow.{Flow}
use Rattle.cash_flow_legs.specs.Amount.{views_of, amount_of}
use Rattle.cash_flow_legs.specs.Live.{is_live}
use Rattle.cash_flow_legs.proofs.LiveLemmas.{found, refused, skipped, finished, gives_refused, joined}
use Rattle.cash_flow_legs.proofs.live_flows.amounts_of.Goals as goal
use Rattle.cash_flow_legs.proofs.live_flows.amounts_of.Goals.{After-loop-flow, then-is_live+in_ok-amount+in_ok-push, else-is_live}

pub returns-in_err-amount-clause-given : goal.returns-in_err-amount-clause-given
returns-in_err-amount-clause-given c =
    let amount = amount_of (views_of (option_copied c.args.index)) c.args.today (option_copied c.args.curve) c.args.owner in
    let cause = refused amount (is_live c.args.today c.args.after) c.args.terms.now c.loop-flow.flow-index c.flow-item.result c.loop-flow.flows c.in_err-amount.field-0.0
    c.loop-flow-test.true c.flow-item.is (sym c.is_live.ensures ∙ c.if-is_live.true) (sym c.amount_of.ensures.value ∙ c.in_err-amount.was) in
    gives_refused _ c.from_residual.result c.in_err-amount.field-0.0 (c.loop-flow.invariant.due ∙ cause) c.from_residual.ensures.1

pub loop-flow-preserved : goal.loop-flow-preserved
loop-flow-preserved c =
    let amount = amount_of (views_of (option_copied c.args.index)) c.args.today (option_copied c.args.curve) c.args.owner in
    let live = is_live c.args.today c.args.after in
    elim c.if-is_live.branch [
      | then-is_live+in_ok-amount+in_ok-push w ↦
          let pushed : c.if-is_live.flows ≡ c.loop-flow.flows ++ record { paid = paid_on c.flow-item.result; amount = w.in_ok-amount.amount } ∷ [] =
          w.flows-is ∙ (w.in_ok-push.ensures.ok ∙ ap (λ (paid : ℤ). c.loop-flow.flows ++ record { paid = paid; amount = w.in_ok-amount.amount } ∷ []) w.paid.ensures) in
          record {
            due = rw pushed (c.loop-flow.invariant.due ∙ found amount live c.args.terms.now c.loop-flow.flow-index c.flow-item.result c.loop-flow.flows w.in_ok-amount.amount
                c.loop-flow-test.true c.flow-item.is (sym c.is_live.ensures ∙ w.if-is_live.true) (sym w.amount_of.ensures.value ∙ w.in_ok-amount.was));
            count = rw (pushed, length_push c.loop-flow.flows (record { paid = paid_on c.flow-item.result; amount = w.in_ok-amount.amount })) (omega (arith, c.loop-flow.invariant.count));
            amounts = rw pushed (All-push (λ (flow : Flow). IsWithin MOST_AMOUNT flow.amount) c.loop-flow.flows (record { paid = paid_on c.flow-item.result; amount = w.in_ok-amount.amount }) c.loop-flow.invariant.amounts w.in_ok-amount.ensures.range);
          }
      | else-is_live w ↦ record {
        due = rw w.flows-is (c.loop-flow.invariant.due ∙ ap (joined c.loop-flow.flows) (skipped amount live c.args.terms.now c.loop-flow.flow-index c.flow-item.result c.loop-flow-test.true c.flow-item.is (sym c.is_live.ensures ∙ w.if-is_live.false)));
        count = rw w.flows-is (omega (arith, c.loop-flow.invariant.count));
        amounts = rw w.flows-is c.loop-flow.invariant.amounts;
      }
    ]

pub returns-clause-given : goal.returns-clause-given
returns-clause-given c =
    let amount = amount_of (views_of (option_copied c.args.index)) c.args.today (option_copied c.args.curve) c.args.owner in
    c.loop-flow.invariant.due ∙ finished amount (is_live c.args.today c.args.after) c.args.terms.now c.loop-flow.flow-index c.loop-flow.flows c.loop-flow-test.false
