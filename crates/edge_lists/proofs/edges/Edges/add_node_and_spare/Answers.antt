use Rattle.std.proofs.Common.{ap, sym, subst, length, arith, ℕ, List, ◌∷◌, ◌++◌, [], Option}
use Rattle.std.proofs.lemmas.List.{length-append}
use Rattle.edge_lists.specs.declared.edge.Edge.{Edge}
use Rattle.edge_lists.specs.declared.edge.Heads.{Heads}
use Rattle.edge_lists.specs.EdgesView.{EdgesView}
use Rattle.edge_lists.specs.Stands.{AreWithin}
use Rattle.edge_lists.proofs.Standing.{stands_grown, stands_roomy}
use Rattle.edge_lists.proofs.Within.{within_grown}
use Rattle.edge_lists.proofs.edges.Edges.add_node_and_spare.Goals as goal

pub invariant_of-self-2 : goal.invariant_of-self-2
invariant_of-self-2 c =
    let room = c.in_ok-make_room.ensures.room in
    rw (c.push_reserved.ensures.items, c.in_ok-reserve.ensures.items, c.push_reserved-2.ensures.items, c.in_ok-reserve-2.ensures.items) (
      stands_grown c.make_room.new.slots c.self.inside.nodes.items
          (stands_roomy c.self.inside.slots c.make_room.new.slots c.self.inside.nodes.items c.self.invariant.0
          c.in_ok-make_room.ensures.slots c.in_ok-make_room.ensures.small (omega arith)),
      (let n = ap (λ (v : EdgesView). length v.nodes) c.self.view_is in let r = c.requires.nodes in
          omega (arith, length-append {A = Option Heads})),
      omega arith,
      (let same = c.self.invariant.3 in omega (arith, length-append {A = Option Heads}, length-append {A = ℕ})),
      subst (λ (s : List (Option Edge)). AreWithin s (c.self.inside.newest.items ++ 0 ∷ []))
          (sym c.in_ok-make_room.ensures.slots)
          (within_grown c.self.inside.slots.slots c.self.inside.newest.items c.self.invariant.4),
    )
