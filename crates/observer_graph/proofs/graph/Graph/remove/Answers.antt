use Rattle.std.proofs.Common.{ℕ, List, length, None, slice_set}
use Rattle.std.specs.VecDeque.{deque_capacity}
use Rattle.observer_graph.specs.Noticed.{AreNoticed, without}
use Rattle.observer_graph.proofs.Numbers.{noticed_set, noticed_without, room_set}
use Rattle.std.proofs.Common.{◌≡◌, ◌⊎◌, ◌∙◌, ap, refl, sym, subst, arith}
use Rattle.observer_graph.specs.GraphView.{GraphView, IsLive}
use Rattle.observer_graph.proofs.Wholes.{live_among, live_within, stands_removed}
use Rattle.observer_graph.proofs.Frozen.{count_most, count_removed, count_some, frozen_read, one_if}
use Rattle.observer_graph.proofs.SubjectLists.{listed_less, spare_listed}
use Rattle.observer_graph.proofs.Turns.{free_as}
use Rattle.observer_graph.proofs.graph.Graph.remove.Goals as goal

pub recounted-self-inside-requires-clause-some : goal.recounted-self-inside-requires-clause-some
recounted-self-inside-requires-clause-some c = λ on.
    let low = live_within c.self.inside.nodes.items c.args.node
    (subst (λ (v : GraphView). IsLive v c.args.node) (sym c.self.view_is) c.requires) in
    let was = frozen_read c.self.inside.nodes.items c.place.result c.args.node c.index.result.now c.is_frozen-was.result
    c.place.ensures low c.index.ensures c.is_frozen-was.ensures in
    let more = count_some c.self.inside.nodes.items c.args.node (sym was ∙ on) in
    let e = c.self.invariant.1 in omega arith

pub recounted-self-inside-requires-clause-room : goal.recounted-self-inside-requires-clause-room
recounted-self-inside-requires-clause-room c = let most = count_most c.self.inside.nodes.items in
    let e = c.self.invariant.1 in let limit = c.self.invariant.0.pairs.limit in let given = c.self.invariant.0.given in omega arith

pub invariant_of-self : goal.invariant_of-self
invariant_of-self c =
    let live = subst (λ (v : GraphView). IsLive v c.args.node) (sym c.self.view_is) c.requires in
    let low = live_within c.self.inside.nodes.items c.args.node live in
    let was = ap one_if (frozen_read c.self.inside.nodes.items c.place.result c.args.node c.index.result.now
    c.is_frozen-was.result c.place.ensures low c.index.ensures c.is_frozen-was.ensures) in
    let given = c.drop_node.ensures.node.given in
    rw c.place-2.ensures (
      stands_removed c.self.inside.nodes.items c.self.inside.edges c.self.inside.sources c.self.inside.wave c.self.invariant.0
          c.drop_node.new.self c.remove.new.self c.args.node low c.whole.ensures c.drop_node.ensures.node c.remove.ensures,
      count_removed c.self.inside.nodes.items c.args.node c.recounted-self-inside.result low
          (let e = c.recounted-self-inside.ensures in let f = c.self.invariant.1 in omega arith),
      subst (λ (l : List ℕ). AreNoticed l (length (slice_set c.self.inside.nodes.items c.args.node None))) (sym c.take_out.ensures.items)
          (noticed_set c.self.inside.nodes.items c.args.node None (without c.args.node c.self.inside.noticed.items) 0
          (noticed_without c.self.inside.noticed.items c.args.node (length c.self.inside.nodes.items) c.self.invariant.2)),
      (let room = room_set c.self.inside.nodes.items c.args.node None c.self.inside.noticed.items (deque_capacity c.self.inside.noticed) c.self.invariant.3 in
          let same = c.take_out.ensures.room in omega arith),
      free_as (length c.self.inside.edges.nodes) (length c.drop_node.new.self.nodes) c.self.inside.down given c.self.invariant.4,
      free_as (length c.self.inside.edges.nodes) (length c.drop_node.new.self.nodes) c.self.inside.up given c.self.invariant.5,
    )

pub returns : goal.returns
returns c = rw (← c.self.view_is, c.place-2.ensures) (record {
  nodes = refl;
  sources = c.remove.ensures;
  noticed = c.take_out.ensures.items;
  spare = spare_listed c.self.inside.edges c.drop_node.new.self c.self.invariant.0.pairs c.whole.ensures c.drop_node.ensures.spare;
  room = c.drop_node.ensures.room;
  pairs = listed_less c.self.inside.edges c.drop_node.new.self (λ x o. (x ≡ c.args.node) ⊎ (o ≡ c.args.node) → ⊥)
      c.self.invariant.0.pairs c.whole.ensures c.drop_node.ensures.node.pairs;
})

pub drop_node-requires : goal.drop_node-requires
drop_node-requires c = live_among c.self.inside.nodes.items c.self.inside.edges c.self.inside.sources c.self.inside.wave c.self.invariant.0
    c.args.node (subst (λ (v : GraphView). IsLive v c.args.node) (sym c.self.view_is) c.requires)
