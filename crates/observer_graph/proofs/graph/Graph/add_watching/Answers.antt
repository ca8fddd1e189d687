use Rattle.std.proofs.Common.{◌≡◌, inl, inr, ◌+◌, ◌∙◌, ◌++◌, ℕ, [], ◌∷◌, ap, sym, subst, arith, List, Bool, false, length, Option, Some}
use Rattle.std.proofs.lemmas.List.{length-append}
use Rattle.walks.specs.Walk.{Among}
use Rattle.edge_lists.specs.EdgesView.{SameNodes, no_heads, with_node}
use Rattle.observer_graph.specs.declared.node.Flags.{Flags}
use Rattle.observer_graph.specs.declared.node.Node.{Node}
use Rattle.observer_graph.specs.GraphView.{GraphView, IsLive}
use Rattle.observer_graph.specs.Late.{frozen_count}
use Rattle.observer_graph.proofs.Frozen.{count_last}
use Rattle.observer_graph.proofs.Growth.{extends_empty}
use Rattle.observer_graph.proofs.Numbers.{noticed_more}
use Rattle.observer_graph.proofs.SubjectLists.{listed_more}
use Rattle.observer_graph.proofs.Turns.{free_as}
use Rattle.observer_graph.proofs.Wholes.{live_among, live_within, off_flags, stands_grown}
use Rattle.observer_graph.proofs.graph.Graph.add_watching.Goals as goal

pub insert_all-requires : goal.insert_all-requires
insert_all-requires c = λ o a.
    let w = live_within c.self.inside.nodes.items o (subst (λ (v : GraphView). IsLive v o) (sym c.self.view_is) (c.requires.live o a)) in
    let m = ap length c.in_ok-reserve-3.ensures.marks in let r = c.self.invariant.0.room in omega arith

pub add_linked-added-requires-clause-live : goal.add_linked-added-requires-clause-live
add_linked-added-requires-clause-live c = λ x a.
    let named = extends_empty c.reserve-3.new.self c.insert_all.new.self c.items.result.now
    (λ o. Among o c.args.subjects.now) c.insert_all.ensures (c.in_ok-reserve-3.ensures.items ∙ c.self.invariant.0.empty) c.items.ensures.items in
    live_among c.self.inside.nodes.items c.self.inside.edges c.self.inside.sources c.self.inside.wave c.self.invariant.0 x
    (subst (λ (v : GraphView). IsLive v x) (sym c.self.view_is) (c.requires.live x ((named x).0 a)))

nodes_are : (c : goal.After-grow-2) → c.push_reserved.new.self.items ≡ c.self.inside.nodes.items ++ Some (record { role = c.args.role; flags = c.default.result }) ∷ []
nodes_are c = c.push_reserved.ensures.items
    ∙ ap (λ (l : List (Option Node)). l ++ Some (record { role = c.args.role; flags = c.default.result }) ∷ []) c.in_ok-reserve.ensures.items

pub invariant_of-self-2 : goal.invariant_of-self-2
invariant_of-self-2 c =
    let grown = ap length (nodes_are c) ∙ length-append c.self.inside.nodes.items (Some (record { role = c.args.role; flags = c.default.result }) ∷ []) in
    let count = c.len-nodes.ensures in let same = c.in_ok-reserve.ensures.len in let ok = c.self.inside.nodes.ok.0 in
    let alike : SameNodes (with_node c.self.inside.edges) c.add_linked-added.new.edges = c.in_ok-node.ensures.nodes in
    let given = alike.given in let longer = length-append c.self.inside.edges.nodes (Some no_heads ∷ []) in
    let was = c.self.invariant.0.given in
    let len : length c.add_linked-added.new.edges.nodes ≡ c.len-nodes.result + 1 = omega arith in (
      stands_grown c.self.inside.nodes.items c.self.inside.edges c.self.inside.sources c.self.inside.wave c.self.invariant.0
          c.push_reserved.new.self.items c.add_linked-added.new.edges c.grow.new.self c.grow-2.new.self c.args.role c.default.result
          c.whole.ensures alike (off_flags c.default.result c.default.ensures) (nodes_are c)
          (c.grow.ensures.marks ∙ ap (λ (l : List Bool). l ++ false ∷ []) c.in_ok-reserve-2.ensures.marks)
          (ap length c.grow-2.ensures.marks ∙ length-append c.clear.new.self.marks (false ∷ []) ∙ ap (λ (n : ℕ). n + 1)
          (c.clear.ensures.len ∙ c.insert_all.ensures.room ∙ ap length c.in_ok-reserve-3.ensures.marks))
          (c.grow-2.ensures.items ∙ c.clear.ensures.items),
      c.self.invariant.1 ∙ sym (ap frozen_count (nodes_are c)
          ∙ count_last c.self.inside.nodes.items (Some (record { role = c.args.role; flags = c.default.result })) c.default.ensures.1.0),
      rw c.in_ok-reserve_for.ensures.items (noticed_more c.self.inside.noticed.items (length c.self.inside.nodes.items)
          (length c.push_reserved.new.self.items) (omega arith) c.self.invariant.2),
      (let room = c.in_ok-reserve_for.ensures.room in omega arith),
      free_as (c.len-nodes.result + 1) (length c.add_linked-added.new.edges.nodes) c.make_room.new.down len
          (c.in_ok-make_room.ensures.room_down (length c.self.inside.edges.nodes) c.self.invariant.4),
      free_as (c.len-nodes.result + 1) (length c.add_linked-added.new.edges.nodes) c.make_room.new.up len
          (c.in_ok-make_room.ensures.room_up (length c.self.inside.edges.nodes) c.self.invariant.5),
    )

pub returns-clause-ok : goal.returns-clause-ok
returns-clause-ok c =
    let named = extends_empty c.reserve-3.new.self c.insert_all.new.self c.items.result.now
    (λ o. Among o c.args.subjects.now) c.insert_all.ensures (c.in_ok-reserve-3.ensures.items ∙ c.self.invariant.0.empty) c.items.ensures.items in
    let pairs = listed_more c.self.inside.edges c.add_linked-added.new.edges
    (λ x o. Among x c.args.subjects.now × (o ≡ length c.self.inside.nodes.items)) c.self.invariant.0.pairs c.whole.ensures (λ x o. (
      λ p. elim ((c.in_ok-node.ensures.pairs x o).0 p) [
        | inl was ↦ inl was
        | inr new ↦ inr ((named x).0 new.0, new.1 ∙ c.self.invariant.0.given)
      ],
      λ p. (c.in_ok-node.ensures.pairs x o).1 (elim p [
        | inl was ↦ inl was
        | inr new ↦ inr ((named x).1 new.0, new.1 ∙ sym c.self.invariant.0.given)
      ]),
    )) in
    rw (← c.self.view_is) (record {
      nodes = nodes_are c ∙ ap (λ (f : Flags). c.self.inside.nodes.items ++ Some (record { role = c.args.role; flags = f }) ∷ [])
          (off_flags c.default.result c.default.ensures);
      sources = c.grow.ensures.marks ∙ ap (λ (l : List Bool). l ++ false ∷ []) c.in_ok-reserve-2.ensures.marks;
      noticed = c.in_ok-reserve_for.ensures.items;
      spare = c.in_ok-node.ensures.spare;
      pairs = pairs;
    })

pub returns-clause-whole : goal.returns-clause-whole
returns-clause-whole c = (invariant_of-self-2 c).0.whole
