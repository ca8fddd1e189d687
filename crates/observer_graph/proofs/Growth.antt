-- Sets that grow at their end.
use Rattle.std.proofs.Common.{◌≡◌, ◌⊎◌, inl, inr, ℕ, ◌+◌, ◌<◌, ◌≤◌, List, [], ◌∷◌, ◌++◌, length, take, refl, sym, ◌∙◌, ap, subst, append_assoc, append-nil}
use Rattle.std.specs.Prelude.{◌↔◌, slice_index_or}
use Rattle.std.proofs.lemmas.List.{take_more, take_all}
use Rattle.walks.specs.Walk.{Among}
use Rattle.observer_graph.specs.Lists.{SetView, Extends}
use Rattle.observer_graph.proofs.Members.{among_last}

pub extends_none : (set : SetView) (nodes : List ℕ) → Extends set set (λ o. Among o (take 0 nodes))
extends_none set nodes = record {
  room = refl;
  spare = refl;
  end = ([], sym (append-nil set.items));
  items = λ o.
      ((λ a. inl a), (λ a. elim a [ inl was ↦ was | inr none ↦ absurd (nothing nodes o none) ]));
}
  where
    nothing : (nodes : List ℕ) (o : ℕ) → Among o (take 0 nodes) → ⊥
    nothing [] o a = a
    nothing (y ∷ ys) o a = a

pub extends_on : (a b c : SetView) (P Q R : ℕ → Type 0) → ((o : ℕ) → P o ⊎ Q o → R o) → ((o : ℕ) → R o → P o ⊎ Q o)
    → Extends a b P → Extends b c Q → Extends a c R
extends_on a b c P Q R join split f g = record {
  room = g.room ∙ f.room;
  spare = g.spare ∙ f.spare;
  end = (
    f.end.0 ++ g.end.0,
    g.end.1 ∙ ap (λ (l : List ℕ). l ++ g.end.0) f.end.1
        ∙ append_assoc a.items f.end.0 g.end.0,
  );
  items = λ o. (
    λ x. elim ((g.items o).0 x) [
      | inl was ↦ elim ((f.items o).0 was) [ inl first ↦ inl first | inr p ↦ inr (join o (inl p)) ]
      | inr q ↦ inr (join o (inr q))
    ],
    λ x. (g.items o).1 (elim x [
      | inl first ↦ inl ((f.items o).1 (inl first))
      | inr r ↦ elim (split o r) [ inl p ↦ inl ((f.items o).1 (inr p)) | inr q ↦ inr q ]
    ]),
  );
}

-- one node more of a list
pub extends_more : (a b c : SetView) (nodes : List ℕ) (at i : ℕ) → at < length nodes → i ≡ slice_index_or nodes at i
    → Extends a b (λ o. Among o (take at nodes)) → Extends b c (λ o. o ≡ i)
    → Extends a c (λ o. Among o (take (at + 1) nodes))
extends_more a b c nodes at i low is = extends_on a b c (λ o. Among o (take at nodes)) (λ o. o ≡ i)
    (λ o. Among o (take (at + 1) nodes))
    (λ o x. subst (Among o) (sym taken) ((among_last o (take at nodes) i).1 x))
    (λ o x. (among_last o (take at nodes) i).0 (subst (Among o) taken x))
  where
    taken : take (at + 1) nodes ≡ take at nodes ++ i ∷ []
    taken = take_more nodes at i low ∙ ap (λ (z : ℕ). take at nodes ++ z ∷ []) (sym is)

-- and all of them
pub extends_end : (a b : SetView) (nodes : List ℕ) (at : ℕ) → length nodes ≤ at
    → Extends a b (λ o. Among o (take at nodes)) → Extends a b (λ o. Among o nodes)
extends_end a b nodes at past f = subst (λ (l : List ℕ). Extends a b (λ o. Among o l)) (take_all at nodes past) f

-- an empty set has no more than what was put in
pub extends_empty : (old new : SetView) (list : List ℕ) (P : ℕ → Type 0) → Extends old new P → old.items ≡ [] → list ≡ new.items
    → (x : ℕ) → Among x list ↔ P x
extends_empty old new list P f empty same x = (
  λ a. elim ((f.items x).0 (subst (Among x) same a)) [ inl was ↦ absurd (subst (Among x) empty was) | inr p ↦ p ],
  λ p. subst (Among x) (sym same) ((f.items x).1 (inr p)),
)
