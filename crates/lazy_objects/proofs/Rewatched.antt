-- What a composite observes after a change of a weight.
use Rattle.std.proofs.Common.{◌≡◌, ◌≢◌, ◌⊎◌, inl, inr, ℕ, ◌≤◌, Bool, true, false, List, [], ◌∷◌, ◌++◌, ℤ, of_z, to_z, w64, refl, sym, ◌∙◌, ap, subst, arith}
use Rattle.std.specs.Prelude.{◌↔◌, ◌==◌, ◌||◌, if◌then◌else◌, pos}
use Rattle.std.specs.Ordering.{int_eq}
use Rattle.std.proofs.lemmas.Bool.Decides.{Decides-int_eq}
use Rattle.std.proofs.lemmas.Bool.{cases_Bool, eqb-true, eqb-false, false≢true}
use Rattle.walks.specs.Walk.{Among}
use Rattle.desk_terms.specs.declared.terms.Part.{Part}
use Rattle.desk_terms.specs.Terms.{part_references}
use Rattle.desk_model.specs.Market.{named}
use Rattle.desk_model.specs.Changeable.{has_member, without_member, reweighted, with_member}
use Rattle.observer_graph.proofs.Members.{among_last}
use Rattle.object_store.specs.Shape.{observed_by}
use Rattle.object_store.specs.Store.{StoreView, Joins, Leaves, IsRewatched}
use Rattle.lazy_objects.proofs.Watched.{by_test}

abbrev members : List Part → List ℕ
members parts = named (part_references parts)

pub is_zero : (weight : ℤ) → of_z w64 weight ≡ 0 → to_z w64 (of_z w64 weight) ≡ weight → int_eq weight (pos 0) ≡ true
is_zero weight bits back = (Decides-int_eq weight (pos 0)).1 (sym back ∙ ap (to_z w64) bits)

-- all members but one
without_there : (parts : List Part) (m x : ℕ) → Among x (members (without_member parts m)) → Among x (members parts) × (x ≢ m)
without_there [] m x a = absurd a
without_there (part ∷ parts) m x a = by_same (part.member == m) refl a (λ more. without_there parts m x more)
  where
    by_same : (b : Bool) → (part.member == m) ≡ b → Among x (members (if b then without_member parts m else part ∷ without_member parts m)) → (Among x (members (without_member parts m)) → Among x (members parts) × (x ≢ m))
        → ((x ≡ part.member) ⊎ Among x (members parts)) × (x ≢ m)
    by_same true is a more = let r = more a in (inr r.0, r.1)
    by_same false is (inl same) more = (inl same, λ (e : x ≡ m). eqb-false part.member m is (sym same ∙ e))
    by_same false is (inr a) more = let r = more a in (inr r.0, r.1)

without_back : (parts : List Part) (m x : ℕ) → Among x (members parts) → x ≢ m → Among x (members (without_member parts m))
without_back [] m x a other = absurd a
without_back (part ∷ parts) m x a other = by_same (part.member == m) refl a (λ more. without_back parts m x more other)
  where
    by_same : (b : Bool) → (part.member == m) ≡ b → (x ≡ part.member) ⊎ Among x (members parts) → (Among x (members parts) → Among x (members (without_member parts m)))
        → Among x (members (if b then without_member parts m else part ∷ without_member parts m))
    by_same true is (inl same) more = absurd (other (same ∙ eqb-true part.member m is))
    by_same true is (inr a) more = more a
    by_same false is (inl same) more = inl same
    by_same false is (inr a) more = inr (more a)

same_members : (parts : List Part) (m : ℕ) (weight : ℤ) → members (reweighted parts m weight) ≡ members parts
same_members [] m weight = refl
same_members (part ∷ parts) m weight = by_same (part.member == m) (same_members parts m weight)
  where
    by_same : (b : Bool) → members (reweighted parts m weight) ≡ members parts → members (if b then record part { weight = weight } ∷ reweighted parts m weight else part ∷ reweighted parts m weight) ≡ part.member ∷ members parts
    by_same true rest = ap (λ (l : List ℕ). part.member ∷ l) rest
    by_same false rest = ap (λ (l : List ℕ). part.member ∷ l) rest

more_members : (parts : List Part) (part : Part) → members (parts ++ part ∷ []) ≡ members parts ++ part.member ∷ []
more_members [] part = refl
more_members (p ∷ parts) part = ap (λ (l : List ℕ). p.member ∷ l) (more_members parts part)

pub no_member : (parts : List Part) (m : ℕ) → has_member parts m ≡ false → Among m (members parts) → ⊥
no_member [] m none a = a
no_member (part ∷ parts) m none a = by_same (part.member == m) refl none a (λ fewer more. no_member parts m fewer more)
  where
    by_same : (b : Bool) → (part.member == m) ≡ b → (b || has_member parts m) ≡ false → (m ≡ part.member) ⊎ Among m (members parts)
        → (has_member parts m ≡ false → Among m (members parts) → ⊥) → ⊥
    by_same true is none a rest = false≢true (sym none)
    by_same false is none (inl same) rest = eqb-false part.member m is (sym same)
    by_same false is none (inr a) rest = rest none a

has_among : (parts : List Part) (m : ℕ) → has_member parts m ≡ true → Among m (members parts)
has_among [] m is = false≢true is
has_among (part ∷ parts) m is = by_same (part.member == m) refl is (λ later. has_among parts m later)
  where
    by_same : (b : Bool) → (part.member == m) ≡ b → (b || has_member parts m) ≡ true → (has_member parts m ≡ true → Among m (members parts))
        → (m ≡ part.member) ⊎ Among m (members parts)
    by_same true is there rest = inl (sym (eqb-true part.member m is))
    by_same false is there rest = inr (rest there)

-- whether an object is a member, by whether it is observed
pub is_member_as : (parts : List Part) (m : ℕ) (b : Bool) → (b ≡ true) ↔ Among m (members parts) → b ≡ has_member parts m
is_member_as parts m b is = by_test b (has_member parts m)
    (λ e. elim (cases_Bool (has_member parts m)) [ inl there ↦ there | inr none ↦ absurd (no_member parts m none (is.0 e)) ])
    (λ e. is.1 (has_among parts m e))

module _ (k m : ℕ) (weight : ℤ) (parts : List Part) (old : StoreView) (watched : (x : ℕ) → Among x (observed_by old.shape k) ↔ Among x (members parts)) where
  pub rewatched_less : (new : StoreView) → int_eq weight (pos 0) ≡ true → Leaves old new m k → old.shape.spare ≤ new.shape.spare → IsRewatched k (with_member parts m weight) old new
  rewatched_less new none leaves spare = record {
    kept = leaves.kept;
    switch = leaves.switch;
    told = leaves.told;
    roles = leaves.roles;
    spare = spare;
    own = λ x. subst (λ (l : List Part). Among x (observed_by new.shape k) ↔ Among x (members l)) (sym (ap (λ (b : Bool). if b then without_member parts m else if has_member parts m then reweighted parts m weight else parts ++ record { weight = weight; member = m } ∷ []) none)) (
      λ a. let p = (leaves.pairs x k).0 a in without_back parts m x ((watched x).0 p.0) (λ e. p.1 (e, refl)),
      λ a. let r = without_there parts m x a in (leaves.pairs x k).1 ((watched x).1 r.0, λ p. r.1 p.0),
    );
    others = λ o x other. (λ a. ((leaves.pairs x o).0 a).0, λ a. (leaves.pairs x o).1 (a, λ p. other p.1));
  }

  pub rewatched_same : int_eq weight (pos 0) ≡ false → has_member parts m ≡ true → IsRewatched k (with_member parts m weight) old old
  rewatched_same some there = record {
    kept = refl;
    switch = refl;
    told = refl;
    roles = refl;
    spare = omega arith;
    own = λ x. subst (λ (l : List Part). Among x (observed_by old.shape k) ↔ Among x (members l))
        (sym (ap (λ (b : Bool). if b then without_member parts m else if has_member parts m then reweighted parts m weight else parts ++ record { weight = weight; member = m } ∷ []) some
        ∙ ap (λ (b : Bool). if b then reweighted parts m weight else parts ++ record { weight = weight; member = m } ∷ []) there))
        (subst (λ (l : List ℕ). Among x (observed_by old.shape k) ↔ Among x l) (sym (same_members parts m weight)) (watched x));
    others = λ o x other. (λ a. a, λ a. a);
  }

  pub rewatched_more : (new : StoreView) → int_eq weight (pos 0) ≡ false → has_member parts m ≡ false → Joins old new m k → new.shape.spare ≡ old.shape.spare → IsRewatched k (with_member parts m weight) old new
  rewatched_more new some none joins spare = record {
    kept = joins.kept;
    switch = joins.switch;
    told = joins.told;
    roles = joins.roles;
    spare = omega (arith, spare);
    own = λ x. subst (λ (l : List Part). Among x (observed_by new.shape k) ↔ Among x (members l))
        (sym (ap (λ (b : Bool). if b then without_member parts m else if has_member parts m then reweighted parts m weight else parts ++ record { weight = weight; member = m } ∷ []) some
        ∙ ap (λ (b : Bool). if b then reweighted parts m weight else parts ++ record { weight = weight; member = m } ∷ []) none))
        (subst (λ (l : List ℕ). Among x (observed_by new.shape k) ↔ Among x l) (sym (more_members parts (record { weight = weight; member = m }))) (
          λ a. (among_last x (members parts) m).1 (elim ((joins.pairs x k).0 a) [ inl was ↦ inl ((watched x).0 was) | inr p ↦ inr p.0 ]),
          λ a. (joins.pairs x k).1 (elim ((among_last x (members parts) m).0 a) [ inl was ↦ inl ((watched x).1 was) | inr e ↦ inr (e, refl) ]),
        ));
    others = λ o x other. (
      λ a. elim ((joins.pairs x o).0 a) [ inl was ↦ was | inr p ↦ absurd (other p.1) ],
      λ a. (joins.pairs x o).1 (inl a),
    );
  }
