-- Marks of nodes, after edits of them.
use Rattle.std.proofs.Common.{◌≡◌, ◌≢◌, inl, inr, ℕ, zero, suc, ◌+◌, ◌<◌, Bool, true, false, List, [], ◌∷◌, ◌++◌, length, drop, take, refl, sym, ◌∙◌, ap, subst, arith, ◌≤◌, drop-cons, add-one}
use Rattle.std.specs.Prelude.{◌↔◌, slice_index_or, slice_set, if◌then◌else◌}
use Rattle.std.proofs.lemmas.Bool.{cases_eq, cases_lt, false≢true}
use Rattle.std.proofs.lemmas.List.{get_or-set_same, get_or-set_other, length-set, length-append, get_or_past, drop_all}
use Rattle.std.proofs.Math.Seq.{take-append_seam}
use Rattle.walks.specs.Walk.{Among, IsOnce}
use Rattle.observer_graph.specs.Lists.{IsSet, is_marked, open_count}
use Rattle.observer_graph.proofs.Members.{among_last, once_last}

-- what is marked is within
pub marked_within : (marks : List Bool) (o : ℕ) → is_marked marks o ≡ true → o < length marks
marked_within marks o e = elim (cases_lt o (length marks)) [
  | inl within ↦ within
  | inr past ↦ absurd
      (false≢true (sym (get_or_past marks o false past) ∙ e))
]

pub open_set : (marks : List Bool) (o : ℕ) → o < length marks → is_marked marks o ≡ false
    → open_count (slice_set marks o true) + 1 ≡ open_count marks
open_set [] o within off = absurd (omega arith)
open_set (mark ∷ marks) zero within off = step mark off
  where
    step : (b : Bool) → b ≡ false → 0 + open_count marks + 1 ≡ (if b then 0 else 1) + open_count marks
    step true e = absurd (cc)
    step false e = omega arith
open_set (mark ∷ marks) (suc o) within off = let e = open_set marks o (omega arith) off in omega arith

pub open_unset : (marks : List Bool) (o : ℕ) → o < length marks → is_marked marks o ≡ true
    → open_count (slice_set marks o false) ≡ open_count marks + 1
open_unset [] o within on = absurd (omega arith)
open_unset (mark ∷ marks) zero within on = step mark on
  where
    step : (b : Bool) → b ≡ true → 1 + open_count marks ≡ (if b then 0 else 1) + open_count marks + 1
    step true e = omega arith
    step false e = absurd (cc)
open_unset (mark ∷ marks) (suc o) within on = let e = open_unset marks o (omega arith) on in omega arith

pub open_last : (marks : List Bool) → open_count (marks ++ false ∷ []) ≡ open_count marks + 1
open_last [] = omega arith
open_last (mark ∷ marks) = let e = open_last marks in omega arith

-- a node more in a set
pub set_more : (marks : List Bool) (items : List ℕ) (node : ℕ) → node < length marks → is_marked marks node ≡ false
    → IsSet marks items → IsSet (slice_set marks node true) (items ++ node ∷ [])
set_more marks items node low off s = record {
  listed = λ o e. (among_last o items node).1 (elim (cases_eq o node) [
    | inl same ↦ inr same
    | inr other ↦ inl (s.listed o (sym (get_or-set_other marks node o true false other) ∙ e))
  ]);
  marked = λ o a. elim (cases_eq o node) [
    | inl same ↦ subst (λ (z : ℕ). is_marked (slice_set marks node true) z ≡ true) (sym same)
        (get_or-set_same marks node true false low)
    | inr other ↦ get_or-set_other marks node o true false other
        ∙ s.marked o (elim ((among_last o items node).0 a) [ inl was ↦ was | inr same ↦ absurd (other same) ])
  ];
  once = once_last items node s.once (λ a. false≢true (sym off ∙ s.marked node a));
  room = let e = open_set marks node low off in let n = length-append items (node ∷ []) in let m = length-set marks
      node true in let r = s.room in omega arith;
}

-- a node less
pub set_less : (marks : List Bool) (items items2 : List ℕ) (node : ℕ) → is_marked marks node ≡ true
    → IsSet marks items
    → ((o : ℕ) → Among o items2 ↔ (Among o items × (o ≡ node → ⊥))) → IsOnce items2 → length items2 + 1 ≡ length items
    → IsSet (slice_set marks node false) items2
set_less marks items items2 node on s left once len = record {
  listed = λ o e. elim (cases_eq o node) [
    | inl same ↦ absurd (false≢true (sym (get_or-set_same marks node false false low)
        ∙ ap (is_marked (slice_set marks node false)) (sym same) ∙ e))
    | inr other ↦ (left o).1 (s.listed o (sym (get_or-set_other marks node o false false other) ∙ e), other)
  ];
  marked = λ o a. let l = (left o).0 a in get_or-set_other marks node o false false l.1 ∙ s.marked o l.0;
  once = once;
  room = let e = open_unset marks node low on in let m = length-set marks node false in let r = s.room in omega arith;
}
  where
    low : node < length marks
    low = marked_within marks node on

pub marked_front : (marks : List Bool) (o : ℕ) → is_marked (marks ++ false ∷ []) o ≡ true → is_marked marks o ≡ true
marked_front [] zero e = e
marked_front [] (suc o) e = e
marked_front (mark ∷ marks) zero e = e
marked_front (mark ∷ marks) (suc o) e = marked_front marks o e

front_marked : (marks : List Bool) (o : ℕ) → is_marked marks o ≡ true → is_marked (marks ++ false ∷ []) o ≡ true
front_marked [] o e = absurd (false≢true e)
front_marked (mark ∷ marks) zero e = e
front_marked (mark ∷ marks) (suc o) e = front_marked marks o e

-- room for a node more
pub set_grown : (marks : List Bool) (items : List ℕ) → IsSet marks items → IsSet (marks ++ false ∷ []) items
set_grown marks items s = record {
  listed = λ o e. s.listed o (marked_front marks o e);
  marked = λ o a. front_marked marks o (s.marked o a);
  once = s.once;
  room = let e = open_last marks in let n = length-append marks (false ∷ []) in let r = s.room in omega arith;
}

open_all : (marks : List Bool) → ((o : ℕ) → is_marked marks o ≡ false) → open_count marks ≡ length marks
open_all [] none = refl
open_all (mark ∷ marks) none = let e = open_all marks (λ o. none (suc o)) in step mark (none 0) e
  where
    step : (b : Bool) → b ≡ false → open_count marks ≡ length marks → (if b then 0 else 1) + open_count marks ≡ suc
        (length marks)
    step true e h = absurd (cc)
    step false e h = omega arith

-- the empty set
pub set_cleared : (marks : List Bool) → ((o : ℕ) → is_marked marks o ≡ false) → IsSet marks []
set_cleared marks none = record {
  listed = λ o e. absurd (false≢true (sym (none o) ∙ e));
  marked =
      λ o a. absurd a;
  once = tt;
  room = let e = open_all marks none in omega arith;
}

-- what is not marked has room
pub has_room : (marks : List Bool) (items : List ℕ) (node : ℕ) → node < length marks → is_marked marks node ≡ false
    → IsSet marks items → length items < length marks
has_room marks items node low off s = let e = open_set marks node low off in let r = s.room in omega arith

-- what a read of a mark says
pub marked_read : (marks : List Bool) (place node : ℕ) (mark : Bool) → node < length marks → place ≡ node
    → mark ≡ slice_index_or marks place mark → is_marked marks node ≡ mark
marked_read marks place node mark low same is = by_place marks node low
    ∙ sym (is ∙ ap (λ (i : ℕ). slice_index_or marks i mark) same)
  where
    by_place : (marks : List Bool) (node : ℕ) → node < length marks
        → slice_index_or marks node false ≡ slice_index_or marks node mark
    by_place [] node low = absurd (omega arith)
    by_place (m ∷ marks) zero low = refl
    by_place (m ∷ marks) (suc node) low = by_place marks node (omega arith)

-- marks are taken back one by one
pub unmarked_more : (marks : List Bool) (nodes : List ℕ) (at i : ℕ) → at < length nodes
    → i ≡ slice_index_or nodes at i → i < length marks → ((o : ℕ) → is_marked marks o ≡ true
    → Among o (drop at nodes))
    → (o : ℕ) → is_marked (slice_set marks i false) o ≡ true → Among o (drop (at + 1) nodes)
unmarked_more marks nodes at i within is low so_far o e = elim (cases_eq o i) [
  | inl same ↦ absurd (false≢true (sym (get_or-set_same marks i false false low)
      ∙ ap (is_marked (slice_set marks i false)) (sym same) ∙ e))
  | inr other ↦ further (subst (Among o) front (so_far o (sym (get_or-set_other marks i o false false other) ∙ e)))
      other
]
  where
    front : drop at nodes ≡ i ∷ drop (at + 1) nodes
    front = drop-cons nodes at i within ∙ ap (λ (z : ℕ). z ∷ drop (suc at) nodes) (sym is)
        ∙ ap (λ (n : ℕ). i ∷ drop n nodes) (sym (add-one at))

    further : Among o (i ∷ drop (at + 1) nodes) → o ≢ i → Among o (drop (at + 1) nodes)
    further (inl same) other = absurd (other same)
    further (inr a) other = a

pub unmarked_all : (marks : List Bool) (nodes : List ℕ) (at : ℕ) → length nodes ≤ at
    → ((o : ℕ) → is_marked marks o ≡ true → Among o (drop at nodes)) → (o : ℕ) → is_marked marks o ≡ false
unmarked_all marks nodes at past so_far o = not_true (is_marked marks o)
    (λ e. subst (Among o) (drop_all at nodes past) (so_far o e))
  where
    not_true : (b : Bool) → (b ≡ true → ⊥) → b ≡ false
    not_true true h = absurd (h refl)
    not_true false h = refl

-- all marks of a list are written back
pub whole_back : {X : Type 0} (len : ℕ) (new old : List X) → length new ≡ len
    → take len (new ++ drop (length new) old) ≡ new
whole_back len new old is = ap (λ (n : ℕ). take n (new ++ drop (length new) old)) (sym is) ∙ take-append_seam new
    (drop (length new) old)
