use Rattle.std.proofs.Common.{◌≡◌, ◌++◌, ◌-◌, drop, length}
use Rattle.why_model.specs.Answer.{named, node_rates_text}
use Rattle.session_why.specs.Lasts.{nodes_with}
use Rattle.session_why.proofs.workings.push_node_rates.Given as goal

-- the nodes before the one at hand are written
abbrev pub invariant-loop-at : goal.invariant-loop-at
invariant-loop-at l =
    l.out.items ++ node_rates_text l.session (named l.session l.object)
    (nodes_with (drop l.at l.nodes) (drop l.at l.quotes) (drop l.at l.rates))
    ≡ l.initial.out.items ++ node_rates_text l.session (named l.session l.object) (nodes_with l.nodes l.quotes l.rates)

abbrev pub decreases-loop-at : goal.decreases-loop-at
decreases-loop-at l = length l.nodes - l.at
