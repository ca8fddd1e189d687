use Rattle.std.proofs.Common.{◌∙◌, ap, length, sym, subst}
use Rattle.std.proofs.lemmas.Bool.{eqb-true}
use Rattle.edge_lists.specs.EdgesView.{subject_lists}
use Rattle.observer_graph.specs.GraphView.{GraphView}
use Rattle.observer_graph.specs.Late.{IsClear}
use Rattle.observer_graph.proofs.Lateness.{nothing_clear, clear_stands}
use Rattle.observer_graph.proofs.graph.Graph.standing.Goals as goal

pub returns-then-is_empty-clause-standing : goal.returns-then-is_empty-clause-standing
returns-then-is_empty-clause-standing c = clear_stands c.args.self.now c.args.node (subst (λ (v : GraphView). IsClear v c.args.node)
    c.self.view_is (nothing_clear c.self.inside.nodes.items (subject_lists c.self.inside.edges) c.self.inside.sources.marks
    c.self.inside.sources.items c.args.node (sym c.self.invariant.1 ∙ c.if-self-eq0.true) c.items.ensures.set
    (sym (ap length c.items.ensures.items)
    ∙ eqb-true (length c.items.result.now) 0 (sym c.is_empty.ensures ∙ c.if-is_empty.true))))
