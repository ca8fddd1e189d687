-- Registrations are a set of pairs that stands in one order.
use Rattle.std.proofs.Common.{◌≡◌, ◌≢◌, ◌⊎◌, inl, inr, ℕ, ◌<◌, Bool, true, false, List, [], ◌∷◌, refl, sym, ◌∙◌, ap, subst, arith}
use Rattle.std.specs.Prelude.{◌↔◌, ◌==◌, ◌&&◌, ◌||◌, nat_lt, if◌then◌else◌}
use Rattle.std.proofs.lemmas.Bool.{cases_eq, eqb-true, eqb-false, eq-eqb, and_parts, and_from, or_cases, or_parts, ltb-true, ltb-false, false≢true, false_from_ne_true}
use Rattle.walks.specs.Walk.{Among}
use Rattle.desk_model.specs.Told.{registered}
use Rattle.desk_model.specs.Effect.{with_pair, without_pair, without_pairs}
use Rattle.desk_model.specs.Registrations.{IsPairIn, ComesBefore, AreInOrder, AreASet}

is_pair : (p : ℕ × ℕ) (w o : ℕ) → ((p.0 == w) && (p.1 == o)) ≡ true → (p.0 ≡ w) × (p.1 ≡ o)
is_pair p w o is = let parts = and_parts (p.0 == w) (p.1 == o) is in (eqb-true p.0 w parts.0, eqb-true p.1 o parts.1)

no_pair : (p : ℕ × ℕ) (w o : ℕ) → ((p.0 == w) && (p.1 == o)) ≡ false → p.0 ≡ w → p.1 ≡ o → ⊥
no_pair p w o is first second = false≢true (sym is ∙ and_from (p.0 == w) (p.1 == o) (eq-eqb p.0 w first) (eq-eqb p.1 o second))

registered_in : (pairs : List (ℕ × ℕ)) (w o : ℕ) → Among o (registered pairs w) ↔ IsPairIn w o pairs
registered_in [] w o = (λ a. a, λ a. a)
registered_in (p ∷ pairs) w o = by_first (p.0 == w) refl (registered_in pairs w o)
  where
    by_first : (b : Bool) → (p.0 == w) ≡ b → Among o (registered pairs w) ↔ IsPairIn w o pairs
        → Among o (if b then p.1 ∷ registered pairs w else registered pairs w) ↔ (((w ≡ p.0) × (o ≡ p.1)) ⊎ IsPairIn w o pairs)
    by_first true is later = (
      λ a. elim a [ inl same ↦ inl (sym (eqb-true p.0 w is), same) | inr there ↦ inr (later.0 there) ],
      λ a. elim a [ inl here ↦ inl here.1 | inr there ↦ inr (later.1 there) ],
    )
    by_first false is later = (
      λ a. inr (later.0 a),
      λ a. elim a [ inl here ↦ absurd (eqb-false p.0 w is (sym here.0)) | inr there ↦ later.1 there ],
    )

more_in : (pairs : List (ℕ × ℕ)) (w o v y : ℕ)
    → IsPairIn v y (with_pair w o pairs) ↔ (IsPairIn v y pairs ⊎ ((v ≡ w) × (y ≡ o)))
more_in [] w o v y = (
  λ a. elim a [ inl new ↦ inr new | inr none ↦ inl none ],
  λ a. elim a [ inl none ↦ inr none | inr new ↦ inl new ],
)
more_in (p ∷ pairs) w o v y = by_place ((p.0 == w) && (p.1 == o)) refl (nat_lt w p.0 || ((p.0 == w) && nat_lt o p.1))
    (more_in pairs w o v y)
  where
    by_place : (b : Bool) → ((p.0 == w) && (p.1 == o)) ≡ b → (c : Bool)
        → IsPairIn v y (with_pair w o pairs) ↔ (IsPairIn v y pairs ⊎ ((v ≡ w) × (y ≡ o)))
        → IsPairIn v y (if b then p ∷ pairs else if c then (w, o) ∷ p ∷ pairs else p ∷ with_pair w o pairs)
        ↔ (IsPairIn v y (p ∷ pairs) ⊎ ((v ≡ w) × (y ≡ o)))
    by_place true is c later = (
      λ a. inl a,
      λ a. elim a [
        | inl was ↦ was
        | inr new ↦ let same = is_pair p w o is in inl (new.0 ∙ sym same.0, new.1 ∙ sym same.1)
      ],
    )
    by_place false is true later = (
      λ a. elim a [ inl new ↦ inr new | inr was ↦ inl was ],
      λ a. elim a [ inl was ↦ inr was | inr new ↦ inl new ],
    )
    by_place false is false later = (
      λ a. elim a [
        | inl here ↦ inl (inl here)
        | inr there ↦ elim (later.0 there) [ inl was ↦ inl (inr was) | inr new ↦ inr new ]
      ],
      λ a. elim a [
        | inl was ↦ elim was [ inl here ↦ inl here | inr there ↦ inr (later.1 (inl there)) ]
        | inr new ↦ inr (later.1 (inr new))
      ],
    )

fewer_in : (pairs : List (ℕ × ℕ)) (w o v y : ℕ)
    → IsPairIn v y (without_pair w o pairs) ↔ (IsPairIn v y pairs × ((v ≡ w) × (y ≡ o) → ⊥))
fewer_in [] w o v y = (λ a. absurd a, λ a. a.0)
fewer_in (p ∷ pairs) w o v y = by_pair ((p.0 == w) && (p.1 == o)) refl (fewer_in pairs w o v y)
  where
    by_pair : (b : Bool) → ((p.0 == w) && (p.1 == o)) ≡ b
        → IsPairIn v y (without_pair w o pairs) ↔ (IsPairIn v y pairs × ((v ≡ w) × (y ≡ o) → ⊥))
        → IsPairIn v y (if b then without_pair w o pairs else p ∷ without_pair w o pairs)
        ↔ (IsPairIn v y (p ∷ pairs) × ((v ≡ w) × (y ≡ o) → ⊥))
    by_pair true is later = (
      λ a. let l = later.0 a in (inr l.0, l.1),
      λ a. elim a.0 [
        | inl here ↦ let same = is_pair p w o is in absurd (a.1 (here.0 ∙ same.0, here.1 ∙ same.1))
        | inr there ↦ later.1 (there, a.1)
      ],
    )
    by_pair false is later = (
      λ a. elim a [
        | inl here ↦ (inl here, λ same. no_pair p w o is (sym here.0 ∙ same.0) (sym here.1 ∙ same.1))
        | inr there ↦ let l = later.0 there in (inr l.0, l.1)
      ],
      λ a. elim a.0 [ inl here ↦ inl here | inr there ↦ inr (later.1 (there, a.1)) ],
    )

dropped_in : (pairs : List (ℕ × ℕ)) (x v y : ℕ)
    → IsPairIn v y (without_pairs x pairs) ↔ (IsPairIn v y pairs × ((v ≡ x) ⊎ (y ≡ x) → ⊥))
dropped_in [] x v y = (λ a. absurd a, λ a. a.0)
dropped_in (p ∷ pairs) x v y = by_end ((p.0 == x) || (p.1 == x)) refl (dropped_in pairs x v y)
  where
    by_end : (b : Bool) → ((p.0 == x) || (p.1 == x)) ≡ b
        → IsPairIn v y (without_pairs x pairs) ↔ (IsPairIn v y pairs × ((v ≡ x) ⊎ (y ≡ x) → ⊥))
        → IsPairIn v y (if b then without_pairs x pairs else p ∷ without_pairs x pairs)
        ↔ (IsPairIn v y (p ∷ pairs) × ((v ≡ x) ⊎ (y ≡ x) → ⊥))
    by_end true is later = (
      λ a. let l = later.0 a in (inr l.0, l.1),
      λ a. elim a.0 [
        | inl here ↦ absurd (a.1 (elim (or_cases (p.0 == x) (p.1 == x) is) [
          | inl first ↦ inl (here.0 ∙ eqb-true p.0 x first)
          | inr second ↦ inr (here.1 ∙ eqb-true p.1 x second)
        ]))
        | inr there ↦ later.1 (there, a.1)
      ],
    )
    by_end false is later = (
      λ a. elim a [
        | inl here ↦ (
          inl here,
          λ gone. elim gone [
            | inl first ↦ eqb-false p.0 x (or_parts (p.0 == x) (p.1 == x) is).0 (sym here.0 ∙ first)
            | inr second ↦ eqb-false p.1 x (or_parts (p.0 == x) (p.1 == x) is).1 (sym here.1 ∙ second)
          ],
        )
        | inr there ↦ let l = later.0 there in (inr l.0, l.1)
      ],
      λ a. elim a.0 [ inl here ↦ inl here | inr there ↦ inr (later.1 (there, a.1)) ],
    )

-- the order of pairs
before_then : (p : ℕ × ℕ) (a b w o : ℕ) → ComesBefore p a b → ComesBefore (a, b) w o → ComesBefore p w o
before_then p a b w o (inl less) (inl more) = let next : a < w = more in inl (omega (arith, less, next))
before_then p a b w o (inl less) (inr more) = let same : a ≡ w = more.0 in inl (omega (arith, less, same))
before_then p a b w o (inr less) (inl more) =
    let same : p.0 ≡ a = less.0 in let next : a < w = more in inl (omega (arith, same, next))
before_then p a b w o (inr less) (inr more) =
    let one : p.1 < b = less.1 in let two : b < o = more.1 in inr (less.0 ∙ more.0, omega (arith, one, two))

never_both : (p q : ℕ × ℕ) → ComesBefore p q.0 q.1 → ComesBefore q p.0 p.1 → ⊥
never_both p q (inl less) (inl more) = absurd (omega (arith, less, more))
never_both p q (inl less) (inr more) = let same : q.0 ≡ p.0 = more.0 in absurd (omega (arith, less, same))
never_both p q (inr less) (inl more) = let same : p.0 ≡ q.0 = less.0 in absurd (omega (arith, same, more))
never_both p q (inr less) (inr more) =
    let one : p.1 < q.1 = less.1 in let two : q.1 < p.1 = more.1 in absurd (omega (arith, one, two))

not_itself : (p : ℕ × ℕ) → ComesBefore p p.0 p.1 → ⊥
not_itself p before = never_both p p before before

-- a pair stands before another, or it stands after it, by the tests
new_before : (p : ℕ × ℕ) (w o : ℕ) → (nat_lt w p.0 || ((p.0 == w) && nat_lt o p.1)) ≡ true → ComesBefore (w, o) p.0 p.1
new_before p w o is = elim (or_cases (nat_lt w p.0) ((p.0 == w) && nat_lt o p.1) is) [
  | inl less ↦ inl (ltb-true w p.0 less)
  | inr later ↦ let parts = and_parts (p.0 == w) (nat_lt o p.1) later in inr (sym (eqb-true p.0 w parts.0), ltb-true o p.1 parts.1)
]

new_after : (p : ℕ × ℕ) (w o : ℕ) → ((p.0 == w) && (p.1 == o)) ≡ false
    → (nat_lt w p.0 || ((p.0 == w) && nat_lt o p.1)) ≡ false → ComesBefore p w o
new_after p w o apart is =
    let parts = or_parts (nat_lt w p.0) ((p.0 == w) && nat_lt o p.1) is in
    let most = ltb-false w p.0 parts.0 in
    elim (cases_eq p.0 w) [
      | inl same ↦
          let least = ltb-false o p.1 (false_from_ne_true (nat_lt o p.1) (λ less.
          false≢true (sym parts.1 ∙ and_from (p.0 == w) (nat_lt o p.1) (eq-eqb p.0 w same) less))) in
          elim (cases_eq p.1 o) [
            | inl equal ↦ absurd (no_pair p w o apart same equal)
            | inr other ↦ inr (same, omega (arith, least, other))
          ]
      | inr other ↦ inl (omega (arith, most, other))
    ]

more_ordered : (pairs : List (ℕ × ℕ)) (w o : ℕ) → AreInOrder pairs → AreInOrder (with_pair w o pairs)
more_ordered [] w o ordered = (λ v y none. absurd none, tt)
more_ordered (p ∷ pairs) w o ordered = by_place ((p.0 == w) && (p.1 == o)) refl
    (nat_lt w p.0 || ((p.0 == w) && nat_lt o p.1)) refl (more_ordered pairs w o ordered.1)
  where
    by_place : (b : Bool) → ((p.0 == w) && (p.1 == o)) ≡ b → (c : Bool)
        → (nat_lt w p.0 || ((p.0 == w) && nat_lt o p.1)) ≡ c → AreInOrder (with_pair w o pairs)
        → AreInOrder (if b then p ∷ pairs else if c then (w, o) ∷ p ∷ pairs else p ∷ with_pair w o pairs)
    by_place true is c place later = ordered
    by_place false is true place later = (
      λ v y a. elim a [
        | inl here ↦ subst (λ (z : ℕ). ComesBefore (w, o) z y) (sym here.0)
            (subst (λ (z : ℕ). ComesBefore (w, o) p.0 z) (sym here.1) (new_before p w o place))
        | inr there ↦ before_then (w, o) p.0 p.1 v y (new_before p w o place) (ordered.0 v y there)
      ],
      ordered,
    )
    by_place false is false place later = (
      λ v y a. elim ((more_in pairs w o v y).0 a) [
        | inl was ↦ ordered.0 v y was
        | inr new ↦ subst (λ (z : ℕ). ComesBefore p z y) (sym new.0)
            (subst (λ (z : ℕ). ComesBefore p w z) (sym new.1) (new_after p w o is place))
      ],
      later,
    )

fewer_ordered : (pairs : List (ℕ × ℕ)) (w o : ℕ) → AreInOrder pairs → AreInOrder (without_pair w o pairs)
fewer_ordered [] w o ordered = tt
fewer_ordered (p ∷ pairs) w o ordered = by_pair ((p.0 == w) && (p.1 == o)) (fewer_ordered pairs w o ordered.1)
  where
    by_pair : (b : Bool) → AreInOrder (without_pair w o pairs)
        → AreInOrder (if b then without_pair w o pairs else p ∷ without_pair w o pairs)
    by_pair true later = later
    by_pair false later = (λ v y a. ordered.0 v y ((fewer_in pairs w o v y).0 a).0, later)

dropped_ordered : (pairs : List (ℕ × ℕ)) (x : ℕ) → AreInOrder pairs → AreInOrder (without_pairs x pairs)
dropped_ordered [] x ordered = tt
dropped_ordered (p ∷ pairs) x ordered = by_end ((p.0 == x) || (p.1 == x)) (dropped_ordered pairs x ordered.1)
  where
    by_end : (b : Bool) → AreInOrder (without_pairs x pairs)
        → AreInOrder (if b then without_pairs x pairs else p ∷ without_pairs x pairs)
    by_end true later = later
    by_end false later = (λ v y a. ordered.0 v y ((dropped_in pairs x v y).0 a).0, later)

-- two in order with the same pairs are the same
same_pairs : (pairs others : List (ℕ × ℕ)) → AreInOrder pairs → AreInOrder others
    → ((w o : ℕ) → IsPairIn w o pairs ↔ IsPairIn w o others) → pairs ≡ others
same_pairs [] [] ordered ordered2 same = refl
same_pairs [] (q ∷ others) ordered ordered2 same = absurd ((same q.0 q.1).1 (inl (refl, refl)))
same_pairs (p ∷ pairs) [] ordered ordered2 same = absurd ((same p.0 p.1).0 (inl (refl, refl)))
same_pairs (p ∷ pairs) (q ∷ others) ordered ordered2 same =
    let head = heads ((same p.0 p.1).0 (inl (refl, refl))) ((same q.0 q.1).1 (inl (refl, refl))) in
    ap (λ (z : ℕ). (z, p.1) ∷ pairs) head.0 ∙ ap (λ (z : ℕ). (q.0, z) ∷ pairs) head.1
    ∙ ap (λ (l : List (ℕ × ℕ)). q ∷ l) (same_pairs pairs others ordered.1 ordered2.1 (λ w o. (tail head w o, tail_back head w o)))
  where
    heads : ((p.0 ≡ q.0) × (p.1 ≡ q.1)) ⊎ IsPairIn p.0 p.1 others → ((q.0 ≡ p.0) × (q.1 ≡ p.1)) ⊎ IsPairIn q.0 q.1 pairs
        → (p.0 ≡ q.0) × (p.1 ≡ q.1)
    heads (inl here) back = here
    heads (inr there) (inl here) = (sym here.0, sym here.1)
    heads (inr there) (inr back) = absurd (never_both p q (ordered.0 q.0 q.1 back) (ordered2.0 p.0 p.1 there))

    tail : (p.0 ≡ q.0) × (p.1 ≡ q.1) → (w o : ℕ) → IsPairIn w o pairs → IsPairIn w o others
    tail head w o a = elim ((same w o).0 (inr a)) [
      | inl here ↦ absurd (not_itself p (subst (λ (z : ℕ). ComesBefore p z p.1) (here.0 ∙ sym head.0)
          (subst (λ (z : ℕ). ComesBefore p w z) (here.1 ∙ sym head.1) (ordered.0 w o a))))
      | inr there ↦ there
    ]

    tail_back : (p.0 ≡ q.0) × (p.1 ≡ q.1) → (w o : ℕ) → IsPairIn w o others → IsPairIn w o pairs
    tail_back head w o a = elim ((same w o).1 (inr a)) [
      | inl here ↦ absurd (not_itself q (subst (λ (z : ℕ). ComesBefore q z q.1) (here.0 ∙ head.0)
          (subst (λ (z : ℕ). ComesBefore q w z) (here.1 ∙ head.1) (ordered2.0 w o a))))
      | inr there ↦ there
    ]

pub are_a_set : (pairs : List (ℕ × ℕ)) → AreASet pairs
are_a_set pairs = record {
  registered = λ w o. registered_in pairs w o;
  more = more_in pairs;
  fewer = fewer_in pairs;
  dropped = dropped_in pairs;
  more_in_order = λ ordered w o. more_ordered pairs w o ordered;
  fewer_in_order = λ ordered w o. fewer_ordered pairs w o ordered;
  dropped_in_order = λ ordered x. dropped_ordered pairs x ordered;
  same = λ ordered others ordered2 same. same_pairs pairs others ordered ordered2 same;
}
