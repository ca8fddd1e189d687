use Rattle.std.proofs.Common.{◌≡◌, ◌<◌, true, false, length, sym, ◌∙◌, subst, arith}
use Rattle.std.proofs.lemmas.List.{length-set}
use Rattle.observer_graph.specs.Lists.{SetView, is_marked}
use Rattle.observer_graph.proofs.Marks.{set_less, marked_read}
use Rattle.observer_graph.proofs.node_set.NodeSet.remove.Goals as goal

on : (c : goal.After-take_out-arg-1) → is_marked c.self.inside.marks.items c.args.node ≡ true
on c = marked_read c.self.inside.marks.items c.place.result c.args.node c.index.result.now
    (subst (λ (v : SetView). c.args.node < length v.marks) (sym c.self.view_is) c.requires)
    c.place.ensures c.index.ensures ∙ c.if-index.true

pub take_out-requires : goal.take_out-requires
take_out-requires c = record { once = c.self.invariant.0.once }

pub invariant_of-self : goal.invariant_of-self
invariant_of-self c = (
  rw c.place-then-index.ensures (set_less c.self.inside.marks.items c.self.inside.items.items
      c.take_out.new.list.items c.args.node (on c.before) c.self.invariant.0 c.take_out.ensures.left
      c.take_out.ensures.once
      (c.take_out.ensures.len (c.take_out.ensures.was.1 (c.self.invariant.0.listed c.args.node (on c.before))))),
  let room = c.self.invariant.1 in let cap = c.take_out.ensures.capacity in let n = length-set
      c.self.inside.marks.items c.place-then-index.result false in omega arith,
)
