use Rattle.std.proofs.Common.{◌∙◌, ap, List, Option, sym, subst, length}
use Rattle.edge_lists.specs.EdgesView.{subject_lists}
use Rattle.observer_graph.specs.declared.node.Node.{Node}
use Rattle.observer_graph.specs.GraphView.{GraphView, IsLive}
use Rattle.observer_graph.specs.Late.{IsLateOf}
use Rattle.observer_graph.specs.Notice.{IsLeast}
use Rattle.observer_graph.specs.Walks.{graph_of}
use Rattle.observer_graph.proofs.Turns.{free_again}
use Rattle.observer_graph.proofs.Wholes.{live_within}
use Rattle.observer_graph.proofs.graph.Graph.least_source.Goals as goal

pub least_beneath-least-requires-clause-nodes : goal.least_beneath-least-requires-clause-nodes
least_beneath-least-requires-clause-nodes c = ap length c.deref.ensures.value ∙ sym c.self.invariant.0.given

pub least_beneath-least-requires-clause-sources : goal.least_beneath-least-requires-clause-sources
least_beneath-least-requires-clause-sources c = c.self.invariant.0.whole.marks ∙ sym (ap length c.deref.ensures.value)

pub least_beneath-least-requires-clause-from : goal.least_beneath-least-requires-clause-from
least_beneath-least-requires-clause-from c = rw c.deref.ensures.value (live_within c.self.inside.nodes.items c.args.node
    (subst (λ (v : GraphView). IsLive v c.args.node) (sym c.self.view_is) c.requires))

pub invariant_of-self : goal.invariant_of-self
invariant_of-self c = (
  c.self.invariant.0,
  c.self.invariant.1,
  c.self.invariant.2,
  c.self.invariant.3,
  free_again (length c.self.inside.edges.nodes) c.self.inside.down c.least_beneath-least.new.wave c.reset.new.self c.self.invariant.4
      c.least_beneath-least.ensures.room c.reset.ensures.marks c.reset.ensures.len c.reset.ensures.waiting,
  c.self.invariant.5,
)

pub returns-clause-answer : goal.returns-clause-answer
returns-clause-answer c = subst (λ (v : GraphView). IsLeast (IsLateOf v c.args.node) c.least_beneath-least.result) c.self.view_is
    (subst (λ (n : List (Option Node)). IsLeast (IsLateOf (graph_of n (subject_lists c.self.inside.edges) c.self.inside.sources.marks)
    c.args.node) c.least_beneath-least.result) c.deref.ensures.value c.least_beneath-least.ensures.least)
