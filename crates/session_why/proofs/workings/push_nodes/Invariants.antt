use Rattle.std.proofs.Common.{◌≡◌, ◌++◌, drop}
use Rattle.why_model.specs.Answer.{named, nodes_text}
use Rattle.session_why.proofs.workings.push_nodes.Given as goal

-- the nodes before the one at hand are written
abbrev pub invariant-loop-node : goal.invariant-loop-node
invariant-loop-node l =
    l.out.items ++ nodes_text (named l.session l.object) (drop l.node-index l.nodes)
    ≡ l.initial.out.items ++ nodes_text (named l.session l.object) l.nodes
