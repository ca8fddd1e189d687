use Rattle.std.proofs.Common.{◌≡◌, ◌⊎◌, inl, inr, ◌+◌, ◌∙◌, ap, sym, subst, refl, arith, ℕ, List, [], ◌∷◌, ◌++◌, take}
use Rattle.std.specs.Prelude.{◌↔◌}
use Rattle.std.proofs.lemmas.List.{take_more, take_all}
use Rattle.walks.specs.Walk.{Among}
use Rattle.edge_lists.specs.EdgesView.{IsPair}
use Rattle.observer_graph.proofs.Members.{among_item, among_last}
use Rattle.observer_graph.proofs.Linked.{once_front}
use Rattle.observer_graph.proofs.pairs.link_all.Goals as goal

none_front : (xs : List ℕ) (x : ℕ) → Among x (take 0 xs) → ⊥
none_front [] x a = a
none_front (y ∷ xs) x a = a

pub loop-subject-init : goal.loop-subject-init
loop-subject-init c = record {
  pairs = λ x o. ((λ p. inl p), λ e. elim e [ inl p ↦ p | inr q ↦ absurd (none_front c.args.named.now x q.0) ]);
  nodes = record { given = refl; live = λ x. refl };
  room = omega arith;
}

pub link_spare-requires : goal.link_spare-requires
link_spare-requires c =
    let here = among_item c.args.named.now c.loop-subject.subject-index c.subject-item.result c.loop-subject-test.true c.subject-item.is in
    record {
      room = let r = c.loop-subject.invariant.room in let n = c.requires.room in let t = c.loop-subject-test.true in omega arith;
      subject = c.loop-subject.invariant.nodes.live c.subject-item.result ∙ c.requires.named c.subject-item.result here;
      observer = c.loop-subject.invariant.nodes.live c.args.node ∙ c.requires.live;
      new = λ p. elim ((c.loop-subject.invariant.pairs c.subject-item.result c.args.node).0 p) [
        | inl was ↦ c.requires.none c.subject-item.result was
        | inr q ↦ once_front c.args.named.now c.loop-subject.subject-index c.subject-item.result c.subject-item.result
            c.requires.once c.loop-subject-test.true (sym c.subject-item.is) q.0
      ];
    }

pub loop-subject-preserved : goal.loop-subject-preserved
loop-subject-preserved c =
    let more : take (c.loop-subject.subject-index + 1) c.args.named.now ≡ take c.loop-subject.subject-index c.args.named.now ++ c.subject-item.result ∷ [] =
    take_more c.args.named.now c.loop-subject.subject-index c.subject-item.result c.loop-subject-test.true
    ∙ ap (λ (z : ℕ). take c.loop-subject.subject-index c.args.named.now ++ z ∷ []) (sym c.subject-item.is) in
    record {
      pairs = λ x o. (
        λ p. elim ((c.link_spare.ensures.pair.pairs x o).0 p) [
          | inl was ↦ elim ((c.loop-subject.invariant.pairs x o).0 was) [
            | inl first ↦ inl first
            | inr q ↦ inr (
              subst (λ (xs : List ℕ). Among x xs) (sym more)
                  ((among_last x (take c.loop-subject.subject-index c.args.named.now) c.subject-item.result).1 (inl q.0)),
              q.1,
            )
          ]
          | inr e ↦ inr (
            subst (λ (xs : List ℕ). Among x xs) (sym more)
                ((among_last x (take c.loop-subject.subject-index c.args.named.now) c.subject-item.result).1 (inr e.0)),
            e.1,
          )
        ],
        λ e. (c.link_spare.ensures.pair.pairs x o).1 (elim e [
          | inl first ↦ inl ((c.loop-subject.invariant.pairs x o).1 (inl first))
          | inr q ↦ elim ((among_last x (take c.loop-subject.subject-index c.args.named.now) c.subject-item.result).0
              (subst (λ (xs : List ℕ). Among x xs) more q.0)) [
                | inl a ↦ inl ((c.loop-subject.invariant.pairs x o).1 (inr (a, q.1)))
                | inr same ↦ inr (same, q.1)
              ]
        ]),
      );
      nodes = record {
        given = c.link_spare.ensures.pair.nodes.given ∙ c.loop-subject.invariant.nodes.given;
        live = λ x. c.link_spare.ensures.pair.nodes.live x ∙ c.loop-subject.invariant.nodes.live x;
      };
      room = let r = c.loop-subject.invariant.room in let s = c.link_spare.ensures.spare in omega arith;
    }

pub returns-clause-pairs : goal.returns-clause-pairs
returns-clause-pairs c =
    let all = take_all c.loop-subject.subject-index c.args.named.now c.loop-subject-test.false in
    subst (λ (xs : List ℕ). (x o : ℕ) → IsPair c.loop-subject.edges x o
    ↔ (IsPair c.args.edges.now x o ⊎ (Among x xs × (o ≡ c.args.node)))) all c.loop-subject.invariant.pairs

pub returns-clause-spare : goal.returns-clause-spare
returns-clause-spare c =
    let r = c.loop-subject.invariant.room in let t = c.loop-subject-test.false in omega arith
