use Rattle.std.proofs.Common.{◌≡◌, ◌≤◌, length, drop, option_copied}
use Rattle.std.specs.List.{All}
use Rattle.jiff_core.specs.Calendar.{IsWithin}
use Rattle.flow_terms.specs.declared.limits.TheConstants.{MOST_AMOUNT}
use Rattle.cash_flow_legs.specs.declared.live_flows.Flow.{Flow}
use Rattle.cash_flow_legs.specs.Amount.{views_of}
use Rattle.cash_flow_legs.specs.Live.{live_flows}
use Rattle.cash_flow_legs.proofs.LiveLemmas.{joined}
use Rattle.cash_flow_legs.proofs.live_flows.amounts_of.Given as goal

abbrev pub invariant-loop-flow : goal.invariant-loop-flow
invariant-loop-flow l = record {
  due : live_flows (views_of (option_copied l.index)) l.today l.after (option_copied l.curve) l.owner l.terms
      ≡ joined l.flows (live_flows (views_of (option_copied l.index)) l.today l.after (option_copied l.curve) l.owner (drop l.flow-index l.terms));
  count : length l.flows ≤ l.flow-index;
  amounts : All (λ (flow : Flow). IsWithin MOST_AMOUNT flow.amount) l.flows;
}
