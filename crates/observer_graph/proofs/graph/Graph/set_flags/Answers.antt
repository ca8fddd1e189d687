use Rattle.std.specs.Prelude.{slice_index_or, None}
use Rattle.std.specs.VecDeque.{deque_capacity}
use Rattle.observer_graph.specs.Change.{flagged}
use Rattle.observer_graph.proofs.Numbers.{noticed_set, room_set}
use Rattle.std.proofs.Common.{◌∙◌, ap, refl, sym, subst, arith}
use Rattle.edge_lists.specs.EdgesView.{subject_lists}
use Rattle.observer_graph.specs.GraphView.{GraphView, IsLazy, node_at}
use Rattle.observer_graph.specs.Walks.{graph_of}
use Rattle.observer_graph.proofs.Wholes.{is_live, live_within, node_read, stands_flagged}
use Rattle.observer_graph.proofs.Frozen.{count_flagged, count_most, count_some, frozen_read, one_if}
use Rattle.observer_graph.proofs.graph.Graph.set_flags.Goals as goal

pub recounted-self-inside-requires-clause-some : goal.recounted-self-inside-requires-clause-some
recounted-self-inside-requires-clause-some c = λ on.
    let lazy = subst (λ (v : GraphView). IsLazy (node_at v c.args.node)) (sym c.self.view_is) c.requires in
    let low = live_within c.self.inside.nodes.items c.args.node
    (is_live (graph_of c.self.inside.nodes.items (subject_lists c.self.inside.edges) c.self.inside.sources.marks) c.args.node lazy) in
    let was = frozen_read c.self.inside.nodes.items c.place.result c.args.node c.index.result.now c.is_frozen-was.result
    c.place.ensures low c.index.ensures c.is_frozen-was.ensures in
    let more = count_some c.self.inside.nodes.items c.args.node (sym was ∙ on) in
    let e = c.self.invariant.1 in omega arith

pub recounted-self-inside-requires-clause-room : goal.recounted-self-inside-requires-clause-room
recounted-self-inside-requires-clause-room c = let most = count_most c.self.inside.nodes.items in
    let e = c.self.invariant.1 in let limit = c.self.invariant.0.pairs.limit in let given = c.self.invariant.0.given in omega arith

pub invariant_of-self : goal.invariant_of-self
invariant_of-self c =
    let lazy = subst (λ (v : GraphView). IsLazy (node_at v c.args.node)) (sym c.self.view_is) c.requires in
    let low = live_within c.self.inside.nodes.items c.args.node
    (is_live (graph_of c.self.inside.nodes.items (subject_lists c.self.inside.edges) c.self.inside.sources.marks) c.args.node lazy) in
    let was = ap one_if (frozen_read c.self.inside.nodes.items c.place.result c.args.node c.index.result.now
    c.is_frozen-was.result c.place.ensures low c.index.ensures c.is_frozen-was.ensures) in
    rw (
      c.set_flags_of.ensures,
      node_read c.self.inside.nodes.items c.place-2.result c.args.node c.index_mut.result.now
          c.place-2.ensures low c.index_mut.ensures.value,
      c.place-2.ensures,
    ) (
      stands_flagged c.self.inside.nodes.items c.self.inside.edges c.self.inside.sources c.self.inside.wave c.self.invariant.0
          c.args.node c.args.flags lazy,
      count_flagged c.self.inside.nodes.items c.args.node c.recounted-self-inside.result c.args.flags lazy low
          (let e = c.recounted-self-inside.ensures in let f = c.self.invariant.1 in omega arith),
      noticed_set c.self.inside.nodes.items c.args.node (flagged c.args.flags (slice_index_or c.self.inside.nodes.items c.args.node None)) c.self.inside.noticed.items (deque_capacity c.self.inside.noticed) c.self.invariant.2,
      room_set c.self.inside.nodes.items c.args.node (flagged c.args.flags (slice_index_or c.self.inside.nodes.items c.args.node None)) c.self.inside.noticed.items (deque_capacity c.self.inside.noticed) c.self.invariant.3,
      c.self.invariant.4,
      c.self.invariant.5,
    )

pub returns : goal.returns
returns c =
    let lazy = subst (λ (v : GraphView). IsLazy (node_at v c.args.node)) (sym c.self.view_is) c.requires in
    let low = live_within c.self.inside.nodes.items c.args.node
    (is_live (graph_of c.self.inside.nodes.items (subject_lists c.self.inside.edges) c.self.inside.sources.marks) c.args.node lazy) in
    rw (
      ← c.self.view_is,
      c.set_flags_of.ensures,
      node_read c.self.inside.nodes.items c.place-2.result c.args.node c.index_mut.result.now
          c.place-2.ensures low c.index_mut.ensures.value,
      c.place-2.ensures,
    ) refl
