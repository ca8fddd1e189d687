use Rattle.std.proofs.Common.{◌≡◌, ◌+◌, ◌∙◌, ap, subst, length, arith, Bool, List, Option}
use Rattle.std.specs.Prelude.{vec_len, is_some, if◌then◌else◌}
use Rattle.slab.specs.Slab.{slab_len}
use Rattle.edge_lists.specs.declared.edge.Heads.{Heads}
use Rattle.edge_lists.specs.Ends.{heads_at}
use Rattle.edge_lists.proofs.Standing.{whole_back}
use Rattle.edge_lists.proofs.Within.{within_fewer}
use Rattle.edge_lists.proofs.edges.Edges.unlink.Goals as goal

pub returns-then-was-clause-pair : goal.returns-then-was-clause-pair
returns-then-was-clause-pair c = rw (
  ← c.self.view_is,
  whole_back (vec_len c.self.inside.nodes) c.take_pair-was.new.nodes c.self.inside.nodes.items
      (c.take_pair-was.auto.nodes
      ∙ c.deref_mut.ensures.len),
) (record {
  nodes = record {
    given = c.take_pair-was.auto.nodes ∙ ap (λ (n : List (Option Heads)). length n) c.deref_mut.ensures.value;
    live = λ x. c.take_pair-was.ensures.live x ∙ ap (λ (n : List (Option Heads)). is_some (heads_at n x))
        c.deref_mut.ensures.value;
  };
  pairs = c.take_pair-was.ensures.pairs;
})

pub returns-else-was-clause-pair : goal.returns-else-was-clause-pair
returns-else-was-clause-pair c = rw (
  ← c.self.view_is,
  whole_back (vec_len c.self.inside.nodes) c.take_pair-was.new.nodes c.self.inside.nodes.items
      (c.take_pair-was.auto.nodes
      ∙ c.deref_mut.ensures.len),
) (record {
  nodes = record {
    given = c.take_pair-was.auto.nodes ∙ ap (λ (n : List (Option Heads)). length n) c.deref_mut.ensures.value;
    live = λ x. c.take_pair-was.ensures.live x ∙ ap (λ (n : List (Option Heads)). is_some (heads_at n x))
        c.deref_mut.ensures.value;
  };
  pairs = c.take_pair-was.ensures.pairs;
})

pub invariant_of-self : goal.invariant_of-self
invariant_of-self c =
    let nodes = c.take_pair-was.auto.nodes ∙ ap (λ (n : List (Option Heads)). length n) c.deref_mut.ensures.value in
    let few = c.self.invariant.1 in let same = c.self.invariant.3 in let was = c.self.invariant.2 in
    let len : slab_len c.take_pair-was.new.slots + 1 ≡ slab_len c.self.inside.slots =
    subst (λ (b : Bool). slab_len c.take_pair-was.new.slots + (if b then 1 else 0) ≡ slab_len c.self.inside.slots)
    c.if-was.true c.take_pair-was.ensures.len in let capacity = c.take_pair-was.ensures.capacity in
    rw (whole_back (vec_len c.self.inside.nodes) c.take_pair-was.new.nodes c.self.inside.nodes.items (c.take_pair-was.auto.nodes
    ∙ c.deref_mut.ensures.len)) (
      c.take_pair-was.ensures.stands,
      omega arith,
      omega arith,
      omega arith,
      within_fewer c.self.inside.slots.slots c.take_pair-was.new.slots.slots c.self.inside.newest.items
          (λ x o pair. ((c.take_pair-was.ensures.pairs x o).0 pair).0) c.self.invariant.4,
    )

pub invariant_of-self-else-was : goal.invariant_of-self-else-was
invariant_of-self-else-was c =
    let nodes = c.take_pair-was.auto.nodes ∙ ap (λ (n : List (Option Heads)). length n) c.deref_mut.ensures.value in
    let few = c.self.invariant.1 in let same = c.self.invariant.3 in let was = c.self.invariant.2 in
    let len : slab_len c.take_pair-was.new.slots + 0 ≡ slab_len c.self.inside.slots =
    subst (λ (b : Bool). slab_len c.take_pair-was.new.slots + (if b then 1 else 0) ≡ slab_len c.self.inside.slots)
    c.if-was.false c.take_pair-was.ensures.len in let capacity = c.take_pair-was.ensures.capacity in
    rw (whole_back (vec_len c.self.inside.nodes) c.take_pair-was.new.nodes c.self.inside.nodes.items (c.take_pair-was.auto.nodes
    ∙ c.deref_mut.ensures.len)) (
      c.take_pair-was.ensures.stands,
      omega arith,
      omega arith,
      omega arith,
      within_fewer c.self.inside.slots.slots c.take_pair-was.new.slots.slots c.self.inside.newest.items
          (λ x o pair. ((c.take_pair-was.ensures.pairs x o).0 pair).0) c.self.invariant.4,
    )
