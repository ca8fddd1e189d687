use Rattle.std.proofs.Common.{◌∙◌, ap, List, Option, refl, sym, subst, length}
use Rattle.std.proofs.lemmas.Bool.{eqb-true}
use Rattle.std.specs.Prelude.{◌↔◌, IsTrue}
use Rattle.edge_lists.specs.EdgesView.{subject_lists}
use Rattle.observer_graph.specs.declared.node.Node.{Node}
use Rattle.observer_graph.specs.GraphView.{GraphView, IsLive}
use Rattle.observer_graph.specs.Late.{IsClear}
use Rattle.observer_graph.specs.Walks.{graph_of}
use Rattle.observer_graph.proofs.Lateness.{nothing_clear}
use Rattle.observer_graph.proofs.Turns.{free_again}
use Rattle.observer_graph.proofs.Wholes.{live_within}
use Rattle.observer_graph.proofs.graph.Graph.all_clear.Goals as goal

pub returns-then-is_empty-clause-answer : goal.returns-then-is_empty-clause-answer
returns-then-is_empty-clause-answer c = (
  λ yes. subst (λ (v : GraphView). IsClear v c.args.node) c.self.view_is
      (nothing_clear c.self.inside.nodes.items (subject_lists c.self.inside.edges) c.self.inside.sources.marks
      c.self.inside.sources.items c.args.node (sym c.self.invariant.1 ∙ c.if-self-eq0.true) c.items.ensures.set
      (sym (ap length c.items.ensures.items)
      ∙ eqb-true (length c.items.result.now) 0 (sym c.is_empty.ensures ∙ c.if-is_empty.true))),
  λ clear. refl,
)

pub is_clear-clear-requires-clause-nodes : goal.is_clear-clear-requires-clause-nodes
is_clear-clear-requires-clause-nodes c = ap length c.deref.ensures.value ∙ sym c.self.invariant.0.given

pub is_clear-clear-requires-clause-sources : goal.is_clear-clear-requires-clause-sources
is_clear-clear-requires-clause-sources c = c.self.invariant.0.whole.marks ∙ sym (ap length c.deref.ensures.value)

pub is_clear-clear-requires-clause-from : goal.is_clear-clear-requires-clause-from
is_clear-clear-requires-clause-from c = rw c.deref.ensures.value (live_within c.self.inside.nodes.items c.args.node
    (subst (λ (v : GraphView). IsLive v c.args.node) (sym c.self.view_is) c.requires))

pub invariant_of-self : goal.invariant_of-self
invariant_of-self c = (
  c.self.invariant.0,
  c.self.invariant.1,
  c.self.invariant.2,
  c.self.invariant.3,
  free_again (length c.self.inside.edges.nodes) c.self.inside.down c.is_clear-clear.new.wave c.reset.new.self c.self.invariant.4
      c.is_clear-clear.ensures.room c.reset.ensures.marks c.reset.ensures.len c.reset.ensures.waiting,
  c.self.invariant.5,
)

pub returns-clause-answer : goal.returns-clause-answer
returns-clause-answer c = subst (λ (v : GraphView). IsTrue c.is_clear-clear.result ↔ IsClear v c.args.node) c.self.view_is
    (subst (λ (n : List (Option Node)). IsTrue c.is_clear-clear.result
    ↔ IsClear (graph_of n (subject_lists c.self.inside.edges) c.self.inside.sources.marks) c.args.node) c.deref.ensures.value
    c.is_clear-clear.ensures.clear)
