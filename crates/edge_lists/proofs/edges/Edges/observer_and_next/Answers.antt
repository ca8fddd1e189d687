use Rattle.std.proofs.Common.{◌∙◌, ap, sym}
use Rattle.edge_lists.specs.declared.edge.Side.TheVariants.{Subject, Observer}
use Rattle.edge_lists.specs.Ends.{node_of, after_of, slot_at}
use Rattle.edge_lists.proofs.Walking.{goes_on}
use Rattle.edge_lists.proofs.edges.Edges.observer_and_next.Goals as goal

pub returns-clause-observer : goal.returns-clause-observer
returns-clause-observer c =
    let slot = ap (slot_at c.self.inside.slots.slots) (sym c.key.ensures) ∙ c.index-pair.ensures in
    rw (← c.self.view_is) (ap (node_of Observer) slot)

pub returns-clause-next : goal.returns-clause-next
returns-clause-next c =
    let slot = ap (slot_at c.self.inside.slots.slots) (sym c.key.ensures) ∙ c.index-pair.ensures in
    rw (← c.self.view_is)
    (goes_on Subject c.self.inside.slots.slots c.self.inside.nodes.items (c.self.invariant.0.chained Subject)
    c.args.edge
    c.index-pair.result.now.subject.node (ap (node_of Subject) slot) c.index-pair.result.now.subject.after
    (sym (ap (after_of Subject) slot)))
