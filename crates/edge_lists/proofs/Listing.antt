-- The pairs as lists of subjects, for callers.
use Rattle.std.proofs.Common.{◌≡◌, inl, inr, ℕ, zero, suc, Bool, true, false, ◌⊎◌, List, [], ◌∷◌, ◌++◌, length, get_or, ◌<◌, ◌≤◌, arith, refl, sym, ap, ◌∙◌, subst, Option, Some, None, cond, eqb}
use Rattle.std.specs.Prelude.{◌↔◌, IsSome, IfSome, IsTrue, is_some}
use Rattle.std.proofs.lemmas.Bool.{eqb-true, eq-eqb, cases_eq}
use Rattle.std.proofs.lemmas.List.{length-append, length-map, get_or_append_left, get_or_past}
use Rattle.slab.specs.Slab.{Slab}
use Rattle.walks.specs.Walk.{Among, IsOnce}
use Rattle.edge_lists.specs.declared.edge.Edge.{Edge}
use Rattle.edge_lists.specs.declared.edge.Side.TheVariants.{Subject, Observer}
use Rattle.edge_lists.specs.Ends.{node_of, after_of, slot_at, heads_at}
use Rattle.edge_lists.specs.declared.edge.Heads.{Heads}
use Rattle.edge_lists.proofs.Linking.{live_within}
use Rattle.edge_lists.specs.Stands.{Stands, IsEdge, IsPairIn}
use Rattle.edge_lists.specs.Walks.{GivesAll, GoesOn, number_or, node_at, slots_from, steps_by}
use Rattle.edge_lists.proofs.Stepping.{none_steps}
use Rattle.edge_lists.proofs.Walking.{among_map, pair_of}
use Rattle.edge_lists.specs.EdgesView.{EdgesView, IsPair, IsWhole, IsThere, HasSubject, HasObserver, subjects_in, subjects_of, observers_from, subjects_from, below, subject_lists}

from_list : (slots : List (Option Edge)) (x o : ℕ) → Among x (subjects_in slots o) → IsPairIn slots x o
from_list [] x o a = absurd a
from_list (None ∷ slots) x o a = let p = from_list slots x o a in
    (suc p.0, record { subject = p.1.subject; observer = p.1.observer })
from_list (Some edge ∷ slots) x o a = by (eqb edge.observer.node o) refl (from_list slots x o) a
  where
    by : (b : Bool) → eqb edge.observer.node o ≡ b → (Among x (subjects_in slots o) → IsPairIn slots x o)
        → Among x (cond b (edge.subject.node ∷ subjects_in slots o) (subjects_in slots o))
        → IsPairIn (Some edge ∷ slots) x o
    by true is later
        (inl same) = (0, record { subject = ap Some (sym same); observer = ap Some (eqb-true edge.observer.node o is) })
    by true is later (inr a) = let p = later a in (suc p.0, record { subject = p.1.subject; observer = p.1.observer })
    by false is later a = let p = later a in (suc p.0, record { subject = p.1.subject; observer = p.1.observer })

to_list : (slots : List (Option Edge)) (x o k : ℕ) → IsEdge slots k x o → Among x (subjects_in slots o)
to_list [] x o zero e = let s = e.subject in absurd (cc)
to_list [] x o (suc k) e = let s = e.subject in absurd (cc)
to_list (None ∷ slots) x o zero e = let s = e.subject in absurd (cc)
to_list (None ∷ slots) x o (suc k) e = to_list slots x o k (record { subject = e.subject; observer = e.observer })
to_list (Some edge ∷ slots) x o zero e =
    let s = e.subject in let n = e.observer in
    let same : edge.observer.node ≡ o = cc in
    subst (λ (b : Bool). Among x (cond b (edge.subject.node ∷ subjects_in slots o) (subjects_in slots o)))
    (sym (eq-eqb edge.observer.node o same)) (inl (cc))
to_list (Some edge ∷ slots) x o (suc k) e =
    later (eqb edge.observer.node o) (to_list slots x o k (record { subject = e.subject; observer = e.observer }))
  where
    later : (b : Bool) → Among x (subjects_in slots o)
        → Among x (cond b (edge.subject.node ∷ subjects_in slots o) (subjects_in slots o))
    later true a = inr a
    later false a = a

-- x is one of the subjects of o exactly where they are a pair
pub among_subjects : (v : EdgesView) (x o : ℕ) → Among x (subjects_of v o) ↔ IsPair v x o
among_subjects v x o = (from_list v.slots x o, λ p. to_list v.slots x o p.0 p.1)

-- a pair with a subject is there
pub subject_there : (v : EdgesView) (edge x : ℕ) → HasSubject v edge x → IsThere v edge
subject_there v edge x has = there (slot_at v.slots edge) has
  where
    there : (slot : Option Edge) → node_of Subject slot ≡ Some x → IsSome slot
    there None has = absurd (cc)
    there (Some e) has = refl

-- a step of a walk gives the observer of the pair, and leads to a pair of the same subject
pub observers_step : (v : EdgesView) (edge x o : ℕ) (found : Option ℕ) → GoesOn Subject v.slots edge found
    → IsEdge v.slots edge x o
    → observers_from v (Some edge) ≡ o ∷ observers_from v found
observers_step v edge x o found on e = on.rest
    ∙ ap (λ (n : ℕ). n ∷ observers_from v found) (ap (number_or 0) e.observer)

pub subject_next : (v : EdgesView) (edge x : ℕ) (found : Option ℕ) → GoesOn Subject v.slots edge found
    → HasSubject v edge x
    → IfSome found (λ j. HasSubject v j x)
subject_next v edge x found on has = next found on.of
  where
    next : (found : Option ℕ) → IfSome found (λ j. node_of Subject (slot_at v.slots j) ≡ node_of Subject
        (slot_at v.slots edge))
        → IfSome found (λ j. HasSubject v j x)
    next None same = tt
    next (Some j) same = same ∙ has

-- a walk from nothing gives nothing
pub observers_none : (v : EdgesView) (o : ℕ) → Among o (observers_from v None) → ⊥
observers_none v o a = let p = (among_map (node_at Observer v.slots) (slots_from Subject v.slots None) o).0 a in
    none_steps (λ k. after_of Subject (slot_at v.slots k)) (length v.slots) p.0 p.1.0

-- the pair of a walk
pub edge_ahead : (v : EdgesView) (edge node x o : ℕ) → HasSubject v edge node → IsEdge v.slots edge x o
    → IsPair v node o
edge_ahead v edge node x o has e = (edge, record { subject = has; observer = e.observer })

zero_suc : (k : ℕ) → 0 ≡ suc k → ⊥
zero_suc k e = omega arith

once_later : (slot : Option Edge) (slots : List (Option Edge))
    → ((j k x p : ℕ) → IsEdge (slot ∷ slots) j x p → IsEdge (slot ∷ slots) k x p → j ≡ k)
    → (j k x p : ℕ) → IsEdge slots j x p → IsEdge slots k x p → j ≡ k
once_later slot slots once j k x p e f =
    let same = once (suc j) (suc k) x p (record { subject = e.subject; observer = e.observer })
    (record { subject = f.subject; observer = f.observer }) in omega arith

-- each subject is listed once
once_listed : (slots : List (Option Edge)) (o : ℕ)
    → ((j k x p : ℕ) → IsEdge slots j x p → IsEdge slots k x p → j ≡ k) → IsOnce (subjects_in slots o)
once_listed [] o once = tt
once_listed (None ∷ slots) o once = once_listed slots o (once_later None slots once)
once_listed (Some edge ∷ slots) o once = by (eqb edge.observer.node o) refl
    (once_listed slots o (once_later (Some edge) slots once))
  where
    by : (b : Bool) → eqb edge.observer.node o ≡ b → IsOnce (subjects_in slots o)
        → IsOnce (cond b (edge.subject.node ∷ subjects_in slots o) (subjects_in slots o))
    by false is later = later
    by true is later = (
      λ a.
          let p = from_list slots edge.subject.node o a in
          zero_suc p.0 (once 0 (suc p.0) edge.subject.node o
          (record { subject = refl; observer = ap Some (eqb-true edge.observer.node o is) })
          (record { subject = p.1.subject; observer = p.1.observer })),
      later,
    )

-- what holds of all pairs
pub whole_of : (slots : Slab Edge) (nodes : List (Option Heads)) (v : EdgesView) → Stands slots nodes
    → length nodes ≤ 65536
    → v.slots ≡ slots.slots → v.nodes ≡ nodes → IsWhole v
whole_of slots nodes v stands limit same_slots same_nodes = record {
  ends = λ x o p.
      let q = subst (λ (s : List (Option Edge)). IsPairIn s x o) same_slots p in (
        subst (λ (n : List (Option Heads)). IsSome (heads_at n x)) (sym same_nodes)
            (stands.live Subject q.0 x q.1.subject),
        subst (λ (n : List (Option Heads)). IsSome (heads_at n o)) (sym same_nodes)
            (stands.live Observer q.0 o q.1.observer),
      );
  once = λ o. subst (λ (s : List (Option Edge)). IsOnce (subjects_in s o)) (sym same_slots)
      (once_listed slots.slots o stands.once);
  limit = let n = ap (λ (n : List (Option Heads)). length n) same_nodes in omega arith;
}

-- the list of a number
pub length_below : {A : Type 0} (f : ℕ → A) (n : ℕ) → length (below f n) ≡ n
length_below f zero = refl
length_below f (suc n) = let a = length-append (below f n) (f n ∷ []) in let b = length_below f n in omega arith

pub below_at : {A : Type 0} (f : ℕ → A) (n k : ℕ) (d : A) → k < n → get_or (below f n) k d ≡ f k
below_at f zero k d low = absurd (omega arith)
below_at f (suc n) k d low = elim (cases_eq k n) [
  | inl same ↦ subst (λ (z : ℕ). get_or (below f n ++ f n ∷ []) z d ≡ f k) (length_below f n ∙ sym same)
      (get_or_append_seam (below f n) (f n) d ∙ ap f (sym same))
  | inr other ↦
      let l = length_below f n in
      let within : k < length (below f n) = omega arith in
      get_or_append_left (below f n) (f n ∷ []) d k within ∙ below_at f n k d (omega arith)
]
  where
    get_or_append_seam : {A : Type 0} (xs : List A) (x d : A) → get_or (xs ++ x ∷ []) (length xs) d ≡ x
    get_or_append_seam [] x d = refl
    get_or_append_seam (y ∷ xs) x d = get_or_append_seam xs x d

lower : (k n : ℕ) → (k < n) ⊎ (n ≤ k)
lower k zero = inr (omega arith)
lower zero (suc n) = inl (omega arith)
lower (suc k) (suc n) = elim (lower k n) [ inl low ↦ inl (omega arith) | inr high ↦ inr (omega arith) ]

-- the list of a node, as the lists have it; beyond the numbers that were given there is none
pub subject_list : (v : EdgesView) → IsWhole v → (o : ℕ) → get_or (subject_lists v) o [] ≡ subjects_of v o
subject_list v whole o = elim (lower o (length v.nodes)) [
  | inl low ↦ below_at (subjects_of v) (length v.nodes) o [] low
  | inr high ↦ get_or_past (subject_lists v) o [] (let l = length_below (subjects_of v) (length v.nodes) in omega arith)
      ∙ sym (no_subjects v o (λ x p. let low = live_within v.nodes o (whole.ends x o p).1 in omega arith))
]
  where
    empty : (xs : List ℕ) → ((x : ℕ) → Among x xs → ⊥) → xs ≡ []
    empty [] none = refl
    empty (x ∷ xs) none = absurd (none x (inl refl))

    no_subjects : (v : EdgesView) (o : ℕ) → ((x : ℕ) → IsPair v x o → ⊥) → subjects_of v o ≡ []
    no_subjects v o none = empty (subjects_of v o) (λ x a. none x ((among_subjects v x o).0 a))

-- the same of the walk of subjects
pub observer_there : (v : EdgesView) (edge o : ℕ) → HasObserver v edge o → IsThere v edge
observer_there v edge o has = there (slot_at v.slots edge) has
  where
    there : (slot : Option Edge) → node_of Observer slot ≡ Some o → IsSome slot
    there None has = absurd (cc)
    there (Some e) has = refl

pub subjects_step : (v : EdgesView) (edge x o : ℕ) (found : Option ℕ) → GoesOn Observer v.slots edge found
    → IsEdge v.slots edge x o
    → subjects_from v (Some edge) ≡ x ∷ subjects_from v found
subjects_step v edge x o found on e = on.rest
    ∙ ap (λ (n : ℕ). n ∷ subjects_from v found) (ap (number_or 0) e.subject)

pub observer_next : (v : EdgesView) (edge o : ℕ) (found : Option ℕ) → GoesOn Observer v.slots edge found
    → HasObserver v edge o
    → IfSome found (λ j. HasObserver v j o)
observer_next v edge o found on has = next found on.of
  where
    next : (found : Option ℕ) → IfSome found (λ j. node_of Observer (slot_at v.slots j) ≡ node_of Observer
        (slot_at v.slots edge))
        → IfSome found (λ j. HasObserver v j o)
    next None same = tt
    next (Some j) same = same ∙ has

pub subjects_none : (v : EdgesView) (x : ℕ) → Among x (subjects_from v None) → ⊥
subjects_none v x a = let p = (among_map (node_at Subject v.slots) (slots_from Observer v.slots None) x).0 a in
    none_steps (λ k. after_of Observer (slot_at v.slots k)) (length v.slots) p.0 p.1.0

pub edge_beneath : (v : EdgesView) (edge node x o : ℕ) → HasObserver v edge node → IsEdge v.slots edge x o
    → IsPair v x node
edge_beneath v edge node x o has e = (edge, record { subject = e.subject; observer = has })

-- a walk begins where a node observes something
pub observes : (v : EdgesView) (o : ℕ) (found : Option ℕ) → GivesAll Observer v.slots o found
    → IsTrue (is_some found) ↔ ((x : ℕ) × IsPair v x o)
observes v o None gives = ((λ no. absurd (cc)), (λ p. absurd (subjects_none v p.0 ((gives.given p.0).1 p.1))))
observes v o (Some k) gives = (
  (λ yes. (node_at Subject v.slots k, pair_of Observer v.slots k o gives.of)),
  (λ p. refl),
)

-- a walk gives no more than there are slots
steps_short : (next : ℕ → Option ℕ) (n : ℕ) (found : Option ℕ) → length (steps_by next n found) ≤ n
unfolding steps_by
steps_short next zero found = omega arith
steps_short next (suc n) None = omega arith
steps_short next (suc n) (Some k) = let s = steps_short next n (next k) in omega arith

pub observers_short : (v : EdgesView) (found : Option ℕ) → length (observers_from v found) ≤ length v.slots
observers_short v found =
    let s = steps_short (λ k. after_of Subject (slot_at v.slots k)) (length v.slots) found in
    let m = length-map (slots_from Subject v.slots found) (node_at Observer v.slots) in omega arith
