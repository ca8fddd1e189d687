use Rattle.std.proofs.Common.{◌≡◌, ◌<◌, [], ◌∷◌, true, false, length, refl, sym, ◌∙◌, subst, arith}
use Rattle.std.proofs.lemmas.List.{length-set}
use Rattle.observer_graph.specs.Lists.{SetView, is_marked}
use Rattle.observer_graph.proofs.Members.{among_last}
use Rattle.observer_graph.proofs.Marks.{set_more, has_room, marked_read}
use Rattle.observer_graph.proofs.node_set.NodeSet.insert.Goals as goal

low : (c : goal.After-push_reserved-arg-1) → c.args.node < length c.self.inside.marks.items
low c = subst (λ (v : SetView). c.args.node < length v.marks) (sym c.self.view_is) c.requires

off : (c : goal.After-push_reserved-arg-1) → is_marked c.self.inside.marks.items c.args.node ≡ false
off c = marked_read c.self.inside.marks.items c.place.result c.args.node c.index.result.now (low c)
    c.place.ensures c.index.ensures ∙ c.if-not-index.true

pub push_reserved-requires : goal.push_reserved-requires
push_reserved-requires c = let r = has_room c.self.inside.marks.items c.self.inside.items.items c.args.node (low c)
    (off c) c.self.invariant.0 in let room = c.self.invariant.1 in omega arith

pub invariant_of-self : goal.invariant_of-self
invariant_of-self c = (
  rw (c.push_reserved.ensures.items, c.place-then-not-index.ensures)
      (set_more c.self.inside.marks.items c.self.inside.items.items c.args.node (low c.before) (off c.before)
      c.self.invariant.0),
  let room = c.self.invariant.1 in let cap = c.push_reserved.ensures.capacity in let n = length-set
      c.self.inside.marks.items c.place-then-not-index.result true in omega arith,
)

pub returns-then-not-index-clause-extends : goal.returns-then-not-index-clause-extends
returns-then-not-index-clause-extends c = rw (c.push_reserved.ensures.items, ← c.self.view_is) (record {
  room = length-set c.self.inside.marks.items c.place-then-not-index.result true;
  spare = rw (c.push_reserved.ensures.capacity, length-set c.self.inside.marks.items c.place-then-not-index.result true) refl;
  end = (c.args.node ∷ [], refl);
  items = λ o. among_last o c.self.inside.items.items c.args.node;
})
