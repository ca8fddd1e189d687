use Rattle.std.specs.Prelude.{slice_index_or, None, true}
use Rattle.std.specs.VecDeque.{deque_capacity}
use Rattle.observer_graph.specs.Change.{flagged}
use Rattle.observer_graph.proofs.Numbers.{noticed_set, room_set}
use Rattle.std.proofs.Common.{sym, subst, ◌∙◌}
use Rattle.edge_lists.specs.EdgesView.{subject_lists}
use Rattle.observer_graph.specs.GraphView.{GraphView, IsLazy, node_at, flags_of}
use Rattle.observer_graph.specs.Walks.{graph_of}
use Rattle.observer_graph.proofs.Wholes.{is_live, live_within, node_read, stands_flagged}
use Rattle.observer_graph.proofs.Frozen.{count_settled}
use Rattle.observer_graph.proofs.graph.Graph.settle.Goals as goal

pub invariant_of-self : goal.invariant_of-self
invariant_of-self c =
    let lazy = subst (λ (v : GraphView). IsLazy (node_at v c.args.node)) (sym c.self.view_is) c.requires in
    let low = live_within c.self.inside.nodes.items c.args.node
    (is_live (graph_of c.self.inside.nodes.items (subject_lists c.self.inside.edges) c.self.inside.sources.marks) c.args.node lazy) in
    let flags = record (flags_of (slice_index_or c.self.inside.nodes.items c.args.node None)) { current = true } in
    rw (
      c.settle_one.ensures,
      node_read c.self.inside.nodes.items c.place.result c.args.node c.index_mut.result.now
          c.place.ensures low c.index_mut.ensures.value,
      c.place.ensures,
    ) (
      stands_flagged c.self.inside.nodes.items c.self.inside.edges c.self.inside.sources c.self.inside.wave c.self.invariant.0
          c.args.node flags lazy,
      c.self.invariant.1 ∙ count_settled c.self.inside.nodes.items c.args.node lazy low,
      noticed_set c.self.inside.nodes.items c.args.node (flagged flags (slice_index_or c.self.inside.nodes.items c.args.node None)) c.self.inside.noticed.items (deque_capacity c.self.inside.noticed) c.self.invariant.2,
      room_set c.self.inside.nodes.items c.args.node (flagged flags (slice_index_or c.self.inside.nodes.items c.args.node None)) c.self.inside.noticed.items (deque_capacity c.self.inside.noticed) c.self.invariant.3,
      c.self.invariant.4,
      c.self.invariant.5,
    )
