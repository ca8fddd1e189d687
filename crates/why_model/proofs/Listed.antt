-- A listing is closed, has nothing else, and has each object once.
use Rattle.std.proofs.Common.{◌≡◌, ◌⊎◌, inl, inr, ℕ, zero, suc, ◌<◌, Bool, true, false, List, [], ◌∷◌, ◌++◌, length, refl, sym, ◌∙◌, ap, subst, arith}
use Rattle.std.specs.Prelude.{◌==◌, if◌then◌else◌}
use Rattle.std.proofs.lemmas.Bool.{eqb-true, eq-eqb, false≢true}
use Rattle.walks.specs.Walk.{Among, IsOnce, Below, Falls}
use Rattle.walks.specs.Walk.Below.{next, beyond}
use Rattle.walks.proofs.Walks.{any_member, member_any}
use Rattle.observer_graph.proofs.Members.{among_left, among_right, among_cases, once_last}
use Rattle.desk_model.specs.Market.{edges}
use Rattle.desk_model.specs.State.{State}
use Rattle.desk_model.proofs.Bounds.{ranks_of}
use Rattle.why_model.specs.Laws.{ListingsAreWhole, ListingsHaveNoBound}
use Rattle.why_model.specs.Listing.{shows_last, rests_on, is_listed, each_put, with_object, listing}

-- what is listed is among the list, and what is not is not
listed_among : (list : List ℕ) (o : ℕ) → is_listed list o ≡ true → Among o list
listed_among list o e = let m = any_member (λ x. x == o) list e in subst (λ (x : ℕ). Among x list) (eqb-true m.0 o m.2) m.1

new_among : (list : List ℕ) (o : ℕ) → is_listed list o ≡ false → Among o list → ⊥
new_among list o e among = false≢true (sym e ∙ member_any (λ x. x == o) o list among (eq-eqb o o refl))

-- o itself, or below it
abbrev Under : (ℕ → List ℕ) → ℕ → ℕ → Type 0
Under reads o x = (x ≡ o) ⊎ Below reads (λ y. y == x) (λ y. true) o

module _ (reads : ℕ → List ℕ) where
  -- a list after another: what was there is there, and of what came all that it reads is there
  record IsGrown (old new : List ℕ) : Type 0 where
    keeps : (x : ℕ) → Among x old → Among x new
    closes : (x : ℕ) → Among x new → Among x old ⊎ ((y : ℕ) → Among y (reads x) → Among y new)

  same_grown : (list : List ℕ) → IsGrown list list
  same_grown list = record { keeps = λ x among. among; closes = λ x among. inl among }

  then_grown : (a b c : List ℕ) → IsGrown a b → IsGrown b c → IsGrown a c
  then_grown a b c first second = record {
    keeps = λ x among. second.keeps x (first.keeps x among);
    closes = λ x among. elim (second.closes x among) [
      | inl there ↦ elim (first.closes x there) [
        | inl before ↦ inl before
        | inr all ↦ inr (λ y below. second.keeps y (all y below))
      ]
      | inr all ↦ inr all
    ];
  }

  each_grown : (put : List ℕ → ℕ → List ℕ) (list os : List ℕ)
      → ((l : List ℕ) (o : ℕ) → Among o os → IsGrown l (put l o) × Among o (put l o))
      → IsGrown list (each_put put list os) × ((o : ℕ) → Among o os → Among o (each_put put list os))
  each_grown put list [] grows = (same_grown list, λ o among. absurd among)
  each_grown put list (o ∷ os) grows =
      let here = grows list o (inl refl) in
      let rest = each_grown put (put list o) os (λ l x among. grows l x (inr among)) in (
        then_grown list (put list o) (each_put put (put list o) os) here.0 rest.0,
        λ x among. elim among [
          | inl same ↦ rest.0.keeps x (subst (λ (y : ℕ). Among y (put list o)) (sym same) here.1)
          | inr later ↦ rest.1 x later
        ],
      )

  -- an object put behind a list, all of whose reads come with it
  put_grown : (list new : List ℕ) (o : ℕ) → IsGrown (list ++ o ∷ []) new → ((y : ℕ) → Among y (reads o) → Among y new)
      → IsGrown list new × Among o new
  put_grown list new o grown all = (
    record {
      keeps = λ x among. grown.keeps x (among_left x list (o ∷ []) among);
      closes = λ x among. elim (grown.closes x among) [
        | inl there ↦ elim (among_cases x list (o ∷ []) there) [
          | inl before ↦ inl before
          | inr last ↦ elim last [
            | inl same ↦ inr (subst (λ (z : ℕ). (y : ℕ) → Among y (reads z) → Among y new) (sym same) all)
            | inr none ↦ absurd none
          ]
        ]
        | inr closed ↦ inr closed
      ];
    },
    grown.keeps o (among_right o list (o ∷ []) (inl refl)),
  )

  module _ (rank : ℕ → ℕ) (falls : Falls reads rank) where
    with_grown : (n : ℕ) (list : List ℕ) (o : ℕ) → rank o < n
        → IsGrown list (with_object reads n list o) × Among o (with_object reads n list o)
    unfolding with_object
    with_grown zero list o low = absurd (omega arith)
    with_grown (suc n) list o low = by_listed (λ l x lower. with_grown n l x lower) (is_listed list o) refl
      where
        by_listed : ((l : List ℕ) (x : ℕ) → rank x < n → IsGrown l (with_object reads n l x) × Among x (with_object reads n l x))
            → (b : Bool) → is_listed list o ≡ b
            → IsGrown list (if b then list else each_put (with_object reads n) (list ++ o ∷ []) (reads o))
            × Among o (if b then list else each_put (with_object reads n) (list ++ o ∷ []) (reads o))
        by_listed deep true is = (same_grown list, listed_among list o is)
        by_listed deep false is =
            let each = each_grown (with_object reads n) (list ++ o ∷ []) (reads o)
            (λ l x among. let fall = falls o x among in deep l x (omega arith)) in
            put_grown list (each_put (with_object reads n) (list ++ o ∷ []) (reads o)) o each.0 each.1

  -- what is listed is the object put there, or lies below it
  each_only : (put : List ℕ → ℕ → List ℕ) (list os : List ℕ)
      → ((l : List ℕ) (o x : ℕ) → Among x (put l o) → Among x l ⊎ Under reads o x)
      → (x : ℕ) → Among x (each_put put list os) → Among x list ⊎ ((o : ℕ) × Among o os × Under reads o x)
  each_only put list [] only x among = inl among
  each_only put list (o ∷ os) only x among = elim (each_only put (put list o) os only x among) [
    | inl there ↦ elim (only list o x there) [
      | inl before ↦ inl before
      | inr under ↦ inr (o, inl refl, under)
    ]
    | inr later ↦ inr (later.0, inr later.1, later.2)
  ]

  under_next : (o y x : ℕ) → Among y (reads o) → Under reads y x → Under reads o x
  under_next o y x among (inl same) = inr (next {x = y} among (eq-eqb y x (sym same)))
  under_next o y x among (inr below) = inr (beyond {x = y} among refl below)

  with_only : (n : ℕ) (list : List ℕ) (o x : ℕ) → Among x (with_object reads n list o) → Among x list ⊎ Under reads o x
  unfolding with_object
  with_only zero list o x among = inl among
  with_only (suc n) list o x among = by_listed (λ l y z there. with_only n l y z there) (is_listed list o) among
    where
      by_listed : ((l : List ℕ) (y z : ℕ) → Among z (with_object reads n l y) → Among z l ⊎ Under reads y z)
          → (b : Bool) → Among x (if b then list else each_put (with_object reads n) (list ++ o ∷ []) (reads o))
          → Among x list ⊎ Under reads o x
      by_listed deep true there = inl there
      by_listed deep false there = elim (each_only (with_object reads n) (list ++ o ∷ []) (reads o) deep x there) [
        | inl before ↦ elim (among_cases x list (o ∷ []) before) [
          | inl old ↦ inl old
          | inr last ↦ elim last [
            | inl same ↦ inr (inl same)
            | inr none ↦ absurd none
          ]
        ]
        | inr later ↦ inr (under_next o later.0 x later.1 later.2)
      ]

  -- each once
  each_once_put : (put : List ℕ → ℕ → List ℕ) (list os : List ℕ) → ((l : List ℕ) (o : ℕ) → IsOnce l → IsOnce (put l o))
      → IsOnce list → IsOnce (each_put put list os)
  each_once_put put list [] stays once = once
  each_once_put put list (o ∷ os) stays once = each_once_put put (put list o) os stays (stays list o once)

  with_once : (n : ℕ) (list : List ℕ) (o : ℕ) → IsOnce list → IsOnce (with_object reads n list o)
  unfolding with_object
  with_once zero list o once = once
  with_once (suc n) list o once = by_listed (λ l y each. with_once n l y each) (is_listed list o) refl
    where
      by_listed : ((l : List ℕ) (y : ℕ) → IsOnce l → IsOnce (with_object reads n l y)) → (b : Bool) → is_listed list o ≡ b
          → IsOnce (if b then list else each_put (with_object reads n) (list ++ o ∷ []) (reads o))
      by_listed deep true is = once
      by_listed deep false is =
          each_once_put (with_object reads n) (list ++ o ∷ []) (reads o) deep (once_last list o once (new_among list o is))

  -- what lies below a member of a closed list is a member
  closed_below : (list : List ℕ) → ((x y : ℕ) → Among x list → Among y (reads x) → Among y list)
      → (x z : ℕ) → Among z list → Below reads (λ y. y == x) (λ y. true) z → Among x list
  closed_below list closed x z there (next {x = y} among here) =
      subst (λ (w : ℕ). Among w list) (eqb-true y x here) (closed z y there among)
  closed_below list closed x z there (beyond {x = y} among passes below) =
      closed_below list closed x y (closed z y there among) below

  pub listing_once : (n o : ℕ) → IsOnce (with_object reads n [] o)
  listing_once n o = with_once n [] o tt

  pub listing_only : (n o x : ℕ) → Among x (with_object reads n [] o) → Under reads o x
  listing_only n o x among = elim (with_only n [] o x among) [
    | inl none ↦ absurd none
    | inr under ↦ under
  ]

  pub listing_every : (rank : ℕ → ℕ) → Falls reads rank → (n o x : ℕ) → rank o < n → Under reads o x
      → Among x (with_object reads n [] o)
  listing_every rank falls n o x low under =
      let grown = with_grown rank falls n [] o low in
      let closed : (z y : ℕ) → Among z (with_object reads n [] o) → Among y (reads z) → Among y (with_object reads n [] o) =
      λ z y there among. elim (grown.0.closes z there) [
        | inl none ↦ absurd none
        | inr all ↦ all y among
      ] in
      elim under [
        | inl same ↦ subst (λ (w : ℕ). Among w (with_object reads n [] o)) (sym same) grown.1
        | inr below ↦ closed_below (with_object reads n [] o) closed x o grown.1 below
      ]

-- how long paths may be does not matter, once it is above the ranks
pub each_same : (put put2 : List ℕ → ℕ → List ℕ) (list os : List ℕ) → ((l : List ℕ) (o : ℕ) → Among o os → put l o ≡ put2 l o)
    → each_put put list os ≡ each_put put2 list os
each_same put put2 list [] same = refl
each_same put put2 list (o ∷ os) same =
    ap (λ (l : List ℕ). each_put put l os) (same list o (inl refl))
    ∙ each_same put put2 (put2 list o) os (λ l x among. same l x (inr among))

module _ (reads : ℕ → List ℕ) (rank : ℕ → ℕ) (falls : Falls reads rank) where
  pub with_steps : (n k : ℕ) (list : List ℕ) (o : ℕ) → rank o < n → rank o < k
      → with_object reads n list o ≡ with_object reads k list o
  unfolding with_object
  with_steps zero k list o p q = absurd (omega arith)
  with_steps (suc n) zero list o p q = absurd (omega arith)
  with_steps (suc n) (suc k) list o p q =
      ap (λ (l : List ℕ). if is_listed list o then list else l)
      (each_same (with_object reads n) (with_object reads k) (list ++ o ∷ []) (reads o)
      (λ l x among. let fall = falls o x among in with_steps n k l x (omega arith) (omega arith)))

-- ---- an answer

pub fewer : (b : Bool) (x : ℕ) (xs : List ℕ) → Among x (if b then [] else xs) → Among x xs
fewer true x xs among = absurd among
fewer false x xs among = among

pub rests_fall : (s : State) (rank : ℕ → ℕ) → Falls (edges s.market) rank → Falls (rests_on s) rank
rests_fall s rank falls o x among = falls o x (fewer (shows_last s o) x (edges s.market o) among)

pub whole : ListingsAreWhole
unfolding listing
whole s links o =
    let r = ranks_of s.market links in
    record {
      once = listing_once (rests_on s) (suc (length s.market.objects)) o;
      only = listing_only (rests_on s) (suc (length s.market.objects)) o;
      every = λ x. listing_every (rests_on s) r.0 (rests_fall s r.0 r.1) (suc (length s.market.objects)) o x (r.2 o);
    }

pub no_bound : ListingsHaveNoBound
unfolding listing
no_bound s links n o more =
    let r = ranks_of s.market links in
    let low = r.2 o in
    with_steps (rests_on s) r.0 (rests_fall s r.0 r.1) n (suc (length s.market.objects)) [] o (omega arith) low
