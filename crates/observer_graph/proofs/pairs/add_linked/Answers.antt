use Rattle.std.proofs.Common.{◌≡◌, ◌⊎◌, ℕ, Some, arith, subst, sym}
use Rattle.std.specs.Prelude.{◌↔◌}
use Rattle.walks.specs.Walk.{Among}
use Rattle.edge_lists.specs.EdgesView.{EdgesView, IsLive, IsPair, no_heads}
use Rattle.edge_lists.proofs.Linking.{live_within}
use Rattle.observer_graph.proofs.SubjectLists.{front_some}
use Rattle.observer_graph.proofs.pairs.add_linked.Goals as goal

pub link_all-requires-clause-named : goal.link_all-requires-clause-named
link_all-requires-clause-named c =
    subst (λ (v : EdgesView). (x : ℕ) → Among x c.args.named.now → IsLive v x) (sym c.in_ok-node.ensures.ok)
    (λ x a. front_some c.args.edges.now.nodes (Some no_heads) x (c.requires.live x a))

pub link_all-requires-clause-none : goal.link_all-requires-clause-none
link_all-requires-clause-none c =
    let next = c.in_ok-node.ensures.number in
    subst (λ (v : EdgesView). (x : ℕ) → IsPair v x c.in_ok-node.node → ⊥) (sym c.in_ok-node.ensures.ok)
    (λ x p. let low = live_within c.args.edges.now.nodes c.in_ok-node.node (c.requires.whole.ends x c.in_ok-node.node p).1 in
    absurd (omega arith))

pub returns-clause-pairs : goal.returns-clause-pairs
returns-clause-pairs c =
    subst (λ (n : ℕ). (x o : ℕ) → IsPair c.link_all.new.edges x o ↔ (IsPair c.args.edges.now x o ⊎ (Among x c.args.named.now × (o ≡ n))))
    c.in_ok-node.ensures.number
    (subst (λ (v : EdgesView). (x o : ℕ) → IsPair c.link_all.new.edges x o ↔ (IsPair v x o ⊎ (Among x c.args.named.now × (o ≡ c.in_ok-node.node))))
    c.in_ok-node.ensures.ok c.link_all.ensures.pairs)
