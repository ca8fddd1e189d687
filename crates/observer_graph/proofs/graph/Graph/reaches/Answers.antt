use Rattle.std.proofs.Common.{◌∙◌, ap, List, Option, sym, subst, length}
use Rattle.std.specs.Prelude.{◌↔◌, IsTrue}
use Rattle.edge_lists.specs.EdgesView.{subject_lists}
use Rattle.observer_graph.specs.declared.node.Node.{Node}
use Rattle.observer_graph.specs.GraphView.{GraphView, IsLive}
use Rattle.observer_graph.specs.Notice.{Reaches}
use Rattle.observer_graph.specs.Walks.{Leads, edges_in}
use Rattle.observer_graph.proofs.Turns.{free_again}
use Rattle.observer_graph.proofs.Wholes.{live_within}
use Rattle.observer_graph.proofs.graph.Graph.reaches.Goals as goal

pub leads_by_turns-answer-requires-clause-nodes : goal.leads_by_turns-answer-requires-clause-nodes
leads_by_turns-answer-requires-clause-nodes c = ap length c.deref.ensures.value ∙ sym c.self.invariant.0.given

pub leads_by_turns-answer-requires-clause-from : goal.leads_by_turns-answer-requires-clause-from
leads_by_turns-answer-requires-clause-from c = rw c.deref.ensures.value (live_within c.self.inside.nodes.items c.args.from
    (subst (λ (v : GraphView). IsLive v c.args.from) (sym c.self.view_is) c.requires.from))

pub leads_by_turns-answer-requires-clause-to : goal.leads_by_turns-answer-requires-clause-to
leads_by_turns-answer-requires-clause-to c = rw c.deref.ensures.value (live_within c.self.inside.nodes.items c.args.to
    (subst (λ (v : GraphView). IsLive v c.args.to) (sym c.self.view_is) c.requires.to))

pub invariant_of-self : goal.invariant_of-self
invariant_of-self c = (
  c.self.invariant.0,
  c.self.invariant.1,
  c.self.invariant.2,
  c.self.invariant.3,
  free_again (length c.self.inside.edges.nodes) c.self.inside.down c.leads_by_turns-answer.new.down c.reset.new.self c.self.invariant.4
      c.leads_by_turns-answer.ensures.down c.reset.ensures.marks c.reset.ensures.len c.reset.ensures.waiting,
  free_again (length c.self.inside.edges.nodes) c.self.inside.up c.leads_by_turns-answer.new.up c.reset-2.new.self c.self.invariant.5
      c.leads_by_turns-answer.ensures.up c.reset-2.ensures.marks c.reset-2.ensures.len c.reset-2.ensures.waiting,
)

pub returns-clause-answer : goal.returns-clause-answer
returns-clause-answer c = subst (λ (v : GraphView). IsTrue c.leads_by_turns-answer.result ↔ Reaches v c.args.from c.args.to) c.self.view_is
    (subst (λ (n : List (Option Node)). IsTrue c.leads_by_turns-answer.result
    ↔ Leads (edges_in n (subject_lists c.self.inside.edges)) c.args.from c.args.to) c.deref.ensures.value
    c.leads_by_turns-answer.ensures.answer)
