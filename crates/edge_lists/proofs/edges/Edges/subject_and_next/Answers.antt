use Rattle.std.proofs.Common.{◌∙◌, ap, sym}
use Rattle.edge_lists.specs.declared.edge.Side.TheVariants.{Subject, Observer}
use Rattle.edge_lists.specs.Ends.{node_of, after_of, slot_at}
use Rattle.edge_lists.proofs.Walking.{goes_on}
use Rattle.edge_lists.proofs.edges.Edges.subject_and_next.Goals as goal

pub returns-clause-subject : goal.returns-clause-subject
returns-clause-subject c =
    let slot = ap (slot_at c.self.inside.slots.slots) (sym c.key.ensures) ∙ c.index-pair.ensures in
    rw (← c.self.view_is) (ap (node_of Subject) slot)

pub returns-clause-next : goal.returns-clause-next
returns-clause-next c =
    let slot = ap (slot_at c.self.inside.slots.slots) (sym c.key.ensures) ∙ c.index-pair.ensures in
    rw (← c.self.view_is)
    (goes_on Observer c.self.inside.slots.slots c.self.inside.nodes.items (c.self.invariant.0.chained Observer)
    c.args.edge
    c.index-pair.result.now.observer.node (ap (node_of Observer) slot) c.index-pair.result.now.observer.after
    (sym (ap (after_of Observer) slot)))
