use Rattle.std.proofs.Common.{◌≡◌, List, drop, option_copied}
use Rattle.cash_flow_legs.specs.declared.live_flows.Flow.{Flow}
use Rattle.cash_flow_legs.specs.Amount.{views_of}
use Rattle.cash_flow_legs.specs.Live.{live_flows}
use Rattle.cash_flow_legs.proofs.LiveLemmas.{joined}
use Rattle.cash_flow_legs.proofs.live_flows.first_cause.Given as goal

abbrev pub invariant-loop-flow : goal.invariant-loop-flow
invariant-loop-flow l = record {
  done : List Flow;
  due : live_flows (views_of (option_copied l.index)) l.today l.after (option_copied l.curve) l.owner l.terms
      ≡ joined done (live_flows (views_of (option_copied l.index)) l.today l.after (option_copied l.curve) l.owner (drop l.flow-index l.terms));
}
