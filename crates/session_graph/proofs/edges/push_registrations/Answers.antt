use Rattle.std.proofs.Common.{◌++◌, List, sym, ◌∙◌, ap}
use Rattle.std.proofs.lemmas.List.{append_assoc, append-nil}
use Rattle.graph_dot.specs.declared.node.GraphEdge.{GraphEdge}
use Rattle.session_graph.specs.Edges.{registration_by, registrations_below}
use Rattle.session_graph.proofs.Below.{registrations_none, registrations_next}
use Rattle.session_graph.proofs.edges.push_registrations.Goals as goal

pub loop-number-init : goal.loop-number-init
loop-number-init c =
    let old = c.args.edges.now.items in
    sym (append-nil old) ∙ ap (λ (l : List GraphEdge). old ++ l) (sym (registrations_none c.args.desk.now c.args.watcher))

pub loop-number-preserved : goal.loop-number-preserved
loop-number-preserved c =
    let desk = c.args.desk.now in
    let w = c.args.watcher in
    let o = c.loop-number.number in
    let old = c.args.edges.now.items in
    c.in_ok-push_registration.ensures
    ∙ ap (λ (l : List GraphEdge). l ++ registration_by desk w o) c.loop-number.invariant
    ∙ append_assoc old (registrations_below desk w o) (registration_by desk w o)
    ∙ ap (λ (l : List GraphEdge). old ++ l) (sym (registrations_next desk w o))
