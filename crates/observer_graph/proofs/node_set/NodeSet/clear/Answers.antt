use Rattle.std.proofs.Common.{◌≡◌, length, ◌∙◌, ap, arith}
use Rattle.std.specs.Prelude.{vec_len}
use Rattle.observer_graph.proofs.Marks.{set_cleared, whole_back}
use Rattle.observer_graph.proofs.node_set.NodeSet.clear.Goals as goal

same : (c : goal.After-clear) → length c.unmark_all.new.marks ≡ vec_len c.self.inside.marks
same c = c.unmark_all.auto.marks ∙ c.deref_mut.ensures.len

pub unmark_all-requires : goal.unmark_all-requires
unmark_all-requires c = rw (c.deref_mut.ensures.value, c.deref.ensures.value) c.self.invariant.0

pub invariant_of-self : goal.invariant_of-self
invariant_of-self c = rw (
  whole_back (vec_len c.self.inside.marks) c.unmark_all.new.marks c.self.inside.marks.items
      (same c),
  c.clear.ensures.items,
) (
  set_cleared c.unmark_all.new.marks c.unmark_all.ensures.marks,
  let s = same c in let room = c.self.invariant.1 in let cap = c.clear.ensures.capacity in let v = ap length
      c.deref_mut.ensures.value in let n = c.deref_mut.ensures.len in omega arith,
)
