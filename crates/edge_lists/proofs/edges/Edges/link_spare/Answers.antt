use Rattle.std.proofs.Common.{◌∙◌, ◌<◌, ap, sym, subst, length, arith, List, Option, get_or}
use Rattle.std.specs.Prelude.{vec_len, is_some, max}
use Rattle.std.proofs.lemmas.List.{length-set}
use Rattle.edge_lists.specs.declared.edge.Heads.{Heads}
use Rattle.edge_lists.specs.Ends.{heads_at}
use Rattle.edge_lists.proofs.Standing.{whole_back}
use Rattle.edge_lists.specs.EdgesView.{EdgesView, IsLive}
use Rattle.edge_lists.proofs.Linking.{live_within}
use Rattle.edge_lists.proofs.Within.{within_more}
use Rattle.edge_lists.proofs.edges.Edges.link_spare.Goals as goal

pub returns-clause-pair : goal.returns-clause-pair
returns-clause-pair c = rw (
  ← c.self.view_is,
  whole_back (vec_len c.self.inside.nodes) c.put_in.new.nodes c.self.inside.nodes.items (c.put_in.auto.nodes
      ∙ c.deref_mut.ensures.len),
) (record {
  nodes = record {
    given = c.put_in.auto.nodes ∙ ap (λ (n : List (Option Heads)). length n) c.deref_mut.ensures.value;
    live = λ x. c.put_in.ensures.live x ∙ ap (λ (n : List (Option Heads)). is_some (heads_at n x))
        c.deref_mut.ensures.value;
  };
  pairs = c.put_in.ensures.pairs;
  count = c.put_in.ensures.len;
})

pub raise-requires : goal.raise-requires
raise-requires c =
    let live = live_within c.self.inside.nodes.items c.args.subject
    (subst (λ (v : EdgesView). IsLive v c.args.subject) (sym c.self.view_is) c.requires.subject) in
    let same = c.self.invariant.3 in omega arith

pub invariant_of-self : goal.invariant_of-self
invariant_of-self c =
    let nodes = c.put_in.auto.nodes ∙ ap (λ (n : List (Option Heads)). length n) c.deref_mut.ensures.value in
    let few = c.self.invariant.1 in let same = c.self.invariant.3 in
    let len = c.put_in.ensures.len in let capacity = c.put_in.ensures.capacity in
    let was = c.self.invariant.2 in
    let long = length-set c.self.inside.newest.items c.args.subject
    (max (get_or c.self.inside.newest.items c.args.subject 0) c.args.observer) in
    let live = live_within c.self.inside.nodes.items c.args.subject
    (subst (λ (v : EdgesView). IsLive v c.args.subject) (sym c.self.view_is) c.requires.subject) in
    let low : c.args.subject < length c.self.inside.newest.items = omega arith in
    rw (
      whole_back (vec_len c.self.inside.nodes) c.put_in.new.nodes c.self.inside.nodes.items (c.put_in.auto.nodes
          ∙ c.deref_mut.ensures.len),
      c.raise.ensures,
    ) (
      c.put_in.ensures.stands,
      omega arith,
      omega arith,
      omega arith,
      within_more c.self.inside.newest.items c.args.subject c.args.observer low c.self.inside.slots.slots
          c.put_in.new.slots.slots (λ x o pair. (c.put_in.ensures.pairs x o).0 pair)
          c.self.invariant.4,
    )
