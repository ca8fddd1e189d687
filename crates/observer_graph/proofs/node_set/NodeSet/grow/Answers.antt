use Rattle.std.proofs.Common.{◌<◌, ◌-◌, [], ◌∷◌, false, length, sym, subst, arith}
use Rattle.std.specs.Prelude.{min, vec_capacity}
use Rattle.std.proofs.lemmas.List.{length-append}
use Rattle.observer_graph.specs.Lists.{SetView}
use Rattle.observer_graph.proofs.Marks.{set_grown}
use Rattle.observer_graph.proofs.node_set.NodeSet.grow.Goals as goal

pub invariant_of-self : goal.invariant_of-self
invariant_of-self c = rw c.push_reserved.ensures.items (
  set_grown c.self.inside.marks.items c.self.inside.items.items c.self.invariant.0,
  let room : 0 < min (vec_capacity c.self.inside.marks) (vec_capacity c.self.inside.items)
      - length c.self.inside.marks.items = subst (λ (v : SetView). 0 < v.spare) (sym c.self.view_is) c.requires in
      let n = length-append c.self.inside.marks.items (false ∷ []) in omega arith,
)
