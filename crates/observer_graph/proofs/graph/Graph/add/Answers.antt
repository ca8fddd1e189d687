use Rattle.std.proofs.Common.{◌≡◌, ◌∙◌, ◌++◌, ◌+◌, [], ◌∷◌, ap, sym, arith, refl, List, Bool, false, length, Option, Some}
use Rattle.std.proofs.lemmas.List.{length-append}
use Rattle.edge_lists.specs.EdgesView.{EdgesView, SameNodes, no_heads, with_node}
use Rattle.observer_graph.specs.declared.node.Node.{Node}
use Rattle.observer_graph.specs.Late.{frozen_count}
use Rattle.observer_graph.proofs.Frozen.{count_last}
use Rattle.observer_graph.proofs.Numbers.{noticed_more}
use Rattle.observer_graph.proofs.SubjectLists.{with_node_lists}
use Rattle.observer_graph.proofs.Turns.{free_as}
use Rattle.observer_graph.proofs.Wholes.{off_flags, same_nodes, stands_grown}
use Rattle.observer_graph.proofs.graph.Graph.add.Goals as goal

nodes_are : (c : goal.After-grow-2) → c.push_reserved.new.self.items ≡ c.self.inside.nodes.items ++ Some (record { role = c.args.role; flags = c.default.result }) ∷ []
nodes_are c = c.push_reserved.ensures.items
    ∙ ap (λ (l : List (Option Node)). l ++ Some (record { role = c.args.role; flags = c.default.result }) ∷ []) c.in_ok-reserve.ensures.items

pub invariant_of-self-2 : goal.invariant_of-self-2
invariant_of-self-2 c =
    let grown = ap length (nodes_are c) ∙ length-append c.self.inside.nodes.items (Some (record { role = c.args.role; flags = c.default.result }) ∷ []) in
    let count = c.len-nodes.ensures in let same = c.in_ok-reserve.ensures.len in let ok = c.self.inside.nodes.ok.0 in
    let alike : SameNodes (with_node c.self.inside.edges) c.add_node.new.self = same_nodes (with_node c.self.inside.edges) c.add_node.new.self (ap (λ (v : EdgesView). v.nodes) c.in_ok-node.ensures.ok) in
    let given = alike.given in let longer = length-append c.self.inside.edges.nodes (Some no_heads ∷ []) in
    let was = c.self.invariant.0.given in
    let len : length c.add_node.new.self.nodes ≡ c.len-nodes.result + 1 = omega arith in (
      stands_grown c.self.inside.nodes.items c.self.inside.edges c.self.inside.sources c.self.inside.wave c.self.invariant.0
          c.push_reserved.new.self.items c.add_node.new.self c.grow.new.self c.grow-2.new.self c.args.role c.default.result
          c.whole.ensures alike (off_flags c.default.result c.default.ensures) (nodes_are c)
          (c.grow.ensures.marks ∙ ap (λ (l : List Bool). l ++ false ∷ []) c.in_ok-reserve-2.ensures.marks)
          (ap length (c.grow-2.ensures.marks ∙ ap (λ (l : List Bool). l ++ false ∷ []) c.in_ok-reserve-3.ensures.marks)
          ∙ length-append c.self.inside.wave.marks (false ∷ []))
          (c.grow-2.ensures.items ∙ c.in_ok-reserve-3.ensures.items ∙ c.self.invariant.0.empty),
      c.self.invariant.1 ∙ sym (ap frozen_count (nodes_are c)
          ∙ count_last c.self.inside.nodes.items (Some (record { role = c.args.role; flags = c.default.result })) c.default.ensures.1.0),
      rw c.in_ok-reserve_for.ensures.items (noticed_more c.self.inside.noticed.items (length c.self.inside.nodes.items)
          (length c.push_reserved.new.self.items) (omega arith) c.self.invariant.2),
      (let room = c.in_ok-reserve_for.ensures.room in omega arith),
      free_as (c.len-nodes.result + 1) (length c.add_node.new.self.nodes) c.make_room.new.down len
          (c.in_ok-make_room.ensures.room_down (length c.self.inside.edges.nodes) c.self.invariant.4),
      free_as (c.len-nodes.result + 1) (length c.add_node.new.self.nodes) c.make_room.new.up len
          (c.in_ok-make_room.ensures.room_up (length c.self.inside.edges.nodes) c.self.invariant.5),
    )

pub returns-clause-ok : goal.returns-clause-ok
returns-clause-ok c = rw (
  ← c.self.view_is,
  c.in_ok-node.ensures.ok,
  with_node_lists c.self.inside.edges c.self.invariant.0.pairs,
  nodes_are c,
  off_flags c.default.result c.default.ensures,
  c.grow.ensures.marks,
  c.in_ok-reserve-2.ensures.marks,
  c.in_ok-reserve_for.ensures.items,
) refl

pub returns-clause-whole : goal.returns-clause-whole
returns-clause-whole c = (invariant_of-self-2 c).0.whole
