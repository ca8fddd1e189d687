use Rattle.std.specs.Prelude.{slice_index_or, None}
use Rattle.std.specs.VecDeque.{deque_capacity}
use Rattle.observer_graph.specs.Notice.{unsettled}
use Rattle.observer_graph.proofs.Numbers.{noticed_set, room_set}
use Rattle.std.proofs.Common.{sym, subst, ◌∙◌}
use Rattle.observer_graph.specs.GraphView.{GraphView, IsLive}
use Rattle.observer_graph.proofs.Wholes.{live_within, node_read, stands_stale}
use Rattle.observer_graph.proofs.Frozen.{count_stale}
use Rattle.observer_graph.proofs.graph.Graph.outdate.Goals as goal

pub invariant_of-self : goal.invariant_of-self
invariant_of-self c =
    let live = subst (λ (v : GraphView). IsLive v c.args.node) (sym c.self.view_is) c.requires in
    let low = live_within c.self.inside.nodes.items c.args.node live in
    rw (
      c.unsettle_one.ensures,
      node_read c.self.inside.nodes.items c.place.result c.args.node c.index_mut.result.now
          c.place.ensures low c.index_mut.ensures.value,
      c.place.ensures,
    ) (
      stands_stale c.self.inside.nodes.items c.self.inside.edges c.self.inside.sources c.self.inside.wave c.self.invariant.0
          c.args.node low,
      c.self.invariant.1 ∙ sym (count_stale c.self.inside.nodes.items c.args.node low),
      noticed_set c.self.inside.nodes.items c.args.node (unsettled (slice_index_or c.self.inside.nodes.items c.args.node None)) c.self.inside.noticed.items (deque_capacity c.self.inside.noticed) c.self.invariant.2,
      room_set c.self.inside.nodes.items c.args.node (unsettled (slice_index_or c.self.inside.nodes.items c.args.node None)) c.self.inside.noticed.items (deque_capacity c.self.inside.noticed) c.self.invariant.3,
      c.self.invariant.4,
      c.self.invariant.5,
    )
