-- A worklist that is filled until no node waits.
use Rattle.std.proofs.Common.{◌≡◌, ◌⊎◌, inl, inr, ℕ, ◌+◌, ◌<◌, Bool, true, false, List, [], ◌∷◌, ◌++◌, length, refl, sym, ap, ◌∙◌, subst, arith, cond, Option, Some, None}
use Rattle.std.specs.Prelude.{IfNone, IfSome, MatchOption, not, slice_set}
use Rattle.std.proofs.lemmas.Bool.{false≢true}
use Rattle.std.proofs.lemmas.List.{length-set, length-append}
use Rattle.walks.specs.Walk.{Among}
use Rattle.wave_queue.specs.Thread.{WaveView, is_marked, open_count}
use Rattle.wave_queue.proofs.Threads.{marked_more, among_last, open_less, open_same}
use Rattle.observer_graph.specs.Puts.{Puts, carrying}
use Rattle.observer_graph.specs.Turns.{IsFree, IsMarkedBelow}

-- a node is carried only where no pair is left, so that none is before one is looked at
pub none_carried : (carried at : Option ℕ) (edge : ℕ) (C : ℕ → Type 0) → IfSome carried (λ o. C o × (at ≡ None))
    → at ≡ Some edge → carried ≡ None
none_carried None at edge C only is = refl
none_carried (Some node) at edge C only is = let e = only.1 in absurd (cc)

pub last_alone : (carried : Option ℕ) (is_last carries : Bool) (next : Option ℕ) → IfSome carried (λ o. is_last ≡ true)
    → (is_last ≡ true → (carries ≡ true) × (next ≡ None))
    → IfSome carried (λ o. (carries ≡ true) × (next ≡ None))
last_alone None is_last carries next only ends = tt
last_alone (Some node) is_last carries next only ends = ends only

-- nor where none may be
pub never_carried : (carried : Option ℕ) (carries : Bool) → IfSome carried (λ o. carries ≡ true) → carries ≡ false
    → carried ≡ None
never_carried None carries only off = refl
never_carried (Some node) carries only off = absurd (false≢true (sym off ∙ only))

pub if_some_of : (found : Option ℕ) (P : Type 0) → P → IfSome found (λ o. P)
if_some_of None P is = tt
if_some_of (Some node) P is = is

-- what is so of the one that may be found
pub if_that : (found : Option ℕ) (one : ℕ) (P : ℕ → Type 0) → IfSome found (λ o. o ≡ one) → P one → IfSome found P
if_that None one P same is = tt
if_that (Some node) one P same is = subst P (sym same) is

pub if_then : (found : Option ℕ) (P Q : ℕ → Type 0) → ((o : ℕ) → P o → Q o) → IfSome found P → IfSome found Q
if_then None P Q follows is = tt
if_then (Some node) P Q follows is = follows node is

-- what is so of a worklist from which one was popped, if one waited
pub popped_end : (found : Option ℕ) (w1 w2 : WaveView)
    → MatchOption found (w1.waiting ≡ []) (λ o. w1.waiting ≡ o ∷ w2.waiting) → IfNone found (w2 ≡ w1)
    → IfNone found ((w1 ≡ w2) × (w2.waiting ≡ []))
popped_end None w1 w2 waiting same = (sym same, ap (λ (w : WaveView). w.waiting) same ∙ waiting)
popped_end (Some node) w1 w2 waiting same = tt

pub popped_marked : (found : Option ℕ) (w1 w2 : WaveView) → w2.marks ≡ w1.marks
    → IfSome found (λ o. is_marked w1.marks o ≡ true) → IfSome found (λ o. is_marked w2.marks o ≡ true)
popped_marked None w1 w2 same on = tt
popped_marked (Some node) w1 w2 same on = ap (λ (m : List Bool). is_marked m node) same ∙ on

pub popped_taken : (found : Option ℕ) (w1 w2 : WaveView)
    → MatchOption found (w1.waiting ≡ []) (λ o. w1.waiting ≡ o ∷ w2.waiting)
    → IfSome found (λ o. (x : ℕ) → Among x w1.waiting → (x ≡ o) ⊎ Among x w2.waiting)
popped_taken None w1 w2 waiting = tt
popped_taken (Some node) w1 w2 waiting = λ x a. subst (λ (xs : List ℕ). Among x xs) waiting a

pub popped_load : (found : Option ℕ) (w1 w2 : WaveView)
    → MatchOption found (w1.waiting ≡ []) (λ o. w1.waiting ≡ o ∷ w2.waiting)
    → IfSome found (λ o. length w1.waiting ≡ length w2.waiting + 1)
popped_load None w1 w2 waiting = tt
popped_load (Some node) w1 w2 waiting = let e = ap (λ (xs : List ℕ). length xs) waiting in omega arith

abbrev pub one_or_none : Option ℕ → ℕ
one_or_none None = 0
one_or_none (Some node) = 1

-- the next node to go on from leaves one less
pub carrying_load : (n : ℕ) (next : Option ℕ) (w1 w2 : WaveView) → w2.marks ≡ w1.marks
    → IfNone next ((w1 ≡ w2) × (w2.waiting ≡ []))
    → IfSome next (λ o. length w1.waiting ≡ length w2.waiting + 1) → open_count w1.marks + length w1.waiting ≡ n
    → open_count w2.marks + length w2.waiting + one_or_none next ≡ n
carrying_load n None w1 w2 same end load is =
    let a = ap (λ (w : WaveView). open_count w.marks + length w.waiting) end.0 in omega arith
carrying_load n (Some node) w1 w2 same end load is =
    let a = ap (λ (m : List Bool). open_count m) same in omega arith

pub carrying_marks : (carried : Option ℕ) (w : WaveView) → (carrying carried w).marks ≡ w.marks
carrying_marks None w = refl
carrying_marks (Some node) w = refl

pub carrying_none : (carried : Option ℕ) (w : WaveView) → carried ≡ None → carrying carried w ≡ w
carrying_none carried w none = ap (λ (c : Option ℕ). carrying c w) none

pub puts_none : (w : WaveView) (P : ℕ → Type 0) → Puts w w P
puts_none w P = record {
  kept_marks = λ o on. on;
  from = λ o on. inl on;
  waits = λ o on. inl on;
  kept = λ o a. a;
  came = λ o a. inl a;
  len = refl;
  load = refl;
}

-- the same nodes in other words
pub puts_as : (v w : WaveView) (P Q : ℕ → Type 0) → ((o : ℕ) → P o → Q o) → Puts v w P → Puts v w Q
puts_as v w P Q there puts = record {
  kept_marks = puts.kept_marks;
  from = λ o on. elim (puts.from o on) [ inl was ↦ inl was | inr p ↦ inr (there o p) ];
  waits = puts.waits;
  kept = puts.kept;
  came = puts.came;
  len = puts.len;
  load = puts.load;
}

-- some nodes, and then more
pub puts_then : (u v w : WaveView) (P Q : ℕ → Type 0) → ((o : ℕ) → Q o → P o) → Puts u v P → Puts v w Q → Puts u w P
puts_then u v w P Q there f g = record {
  kept_marks = λ o on. g.kept_marks o (f.kept_marks o on);
  from = λ o on. elim (g.from o on) [ inl was ↦ f.from o was | inr q ↦ inr (there o q) ];
  waits = λ o on. elim (g.waits o on) [
    | inl was ↦ elim (f.waits o was) [ inl before ↦ inl before | inr a ↦ inr (g.kept o a) ]
    | inr a ↦ inr a
  ];
  kept = λ o a. g.kept o (f.kept o a);
  came = λ o a. elim (g.came o a) [ inl was ↦ f.came o was | inr off ↦ inr (λ on. off (f.kept_marks o on)) ];
  len = g.len ∙ f.len;
  load = g.load ∙ f.load;
}

-- one node more is pushed
pub puts_more : (w0 w1 w2 : WaveView) (P : ℕ → Type 0) (o : ℕ) (r : Bool) → Puts w0 w1 P → P o → o < length w1.marks
    → r ≡ not (is_marked w1.marks o) → w2.marks ≡ slice_set w1.marks o true
    → w2.waiting ≡ cond r (w1.waiting ++ o ∷ []) w1.waiting → Puts w0 w2 P
puts_more w0 w1 w2 P o r was holds low is marks waiting = record {
  kept_marks = λ k on. to k (inl (was.kept_marks k on));
  from = λ k on. elim (of k on) [
    | inl b ↦ was.from k b
    | inr same ↦ inr (subst P (sym same) holds)
  ];
  waits = λ k on. elim (of k on) [
    | inl b ↦ elim (was.waits k b) [ inl c ↦ inl c | inr a ↦ inr (still k a) ]
    | inr same ↦ subst (λ (z : ℕ). (is_marked w0.marks z ≡ true) ⊎ Among z w2.waiting) (sym same) (here r is waiting)
  ];
  kept = λ k a. still k (was.kept k a);
  came = λ k a. new_by r is waiting k a;
  len = ap (λ (m : List Bool). length m) marks ∙ length-set w1.marks o true ∙ was.len;
  load = load r is waiting;
}
  where
    of : (k : ℕ) → is_marked w2.marks k ≡ true → (is_marked w1.marks k ≡ true) ⊎ (k ≡ o)
    of k on = (marked_more w1.marks o k low).0 (ap (λ (m : List Bool). is_marked m k) (sym marks) ∙ on)

    to : (k : ℕ) → (is_marked w1.marks k ≡ true) ⊎ (k ≡ o) → is_marked w2.marks k ≡ true
    to k either = ap (λ (m : List Bool). is_marked m k) marks ∙ (marked_more w1.marks o k low).1 either

    still_by : (r : Bool) → w2.waiting ≡ cond r (w1.waiting ++ o ∷ []) w1.waiting → (k : ℕ) → Among k w1.waiting → Among k w2.waiting
    still_by true e k a = subst (λ (xs : List ℕ). Among k xs) (sym e) ((among_last k w1.waiting o).1 (inl a))
    still_by false e k a = subst (λ (xs : List ℕ). Among k xs) (sym e) a

    still : (k : ℕ) → Among k w1.waiting → Among k w2.waiting
    still k a = still_by r waiting k a

    new_by : (r : Bool) → r ≡ not (is_marked w1.marks o) → w2.waiting ≡ cond r (w1.waiting ++ o ∷ []) w1.waiting → (k : ℕ)
        → Among k w2.waiting → Among k w0.waiting ⊎ (is_marked w0.marks k ≡ true → ⊥)
    new_by true is e k a = elim ((among_last k w1.waiting o).0 (subst (λ (xs : List ℕ). Among k xs) e a)) [
      | inl before ↦ was.came k before
      | inr same ↦ inr (λ on. off (is_marked w1.marks o) is (was.kept_marks o (subst (λ (z : ℕ). is_marked w0.marks z ≡ true) same on)))
    ]
      where
        off : (b : Bool) → true ≡ not b → b ≡ true → ⊥
        off true is on = absurd (cc)
        off false is on = absurd (cc)
    new_by false is e k a = was.came k (subst (λ (xs : List ℕ). Among k xs) e a)

    here : (r : Bool) → r ≡ not (is_marked w1.marks o) → w2.waiting ≡ cond r (w1.waiting ++ o ∷ []) w1.waiting
        → (is_marked w0.marks o ≡ true) ⊎ Among o w2.waiting
    here true is e = inr (subst (λ (xs : List ℕ). Among o xs) (sym e) ((among_last o w1.waiting o).1 (inr refl)))
    here false is e = elim (was.waits o (on (is_marked w1.marks o) is)) [ inl c ↦ inl c | inr a ↦ inr (still_by false e o a) ]
      where
        on : (b : Bool) → false ≡ not b → b ≡ true
        on true is = refl
        on false is = absurd (cc)

    load : (r : Bool) → r ≡ not (is_marked w1.marks o) → w2.waiting ≡ cond r (w1.waiting ++ o ∷ []) w1.waiting
        → open_count w2.marks + length w2.waiting ≡ open_count w0.marks + length w0.waiting
    load true is e =
        let c = ap (λ (m : List Bool). open_count m) marks in
        let d = open_less w1.marks o low (off (is_marked w1.marks o) is) in
        let f = ap (λ (xs : List ℕ). length xs) e in
        let g = length-append w1.waiting (o ∷ []) in
        let l = was.load in omega arith
      where
        off : (b : Bool) → true ≡ not b → b ≡ false
        off true is = absurd (cc)
        off false is = refl
    load false is e =
        let c = ap (λ (m : List Bool). open_count m) marks in
        let d = open_same w1.marks o (on (is_marked w1.marks o) is) in
        let f = ap (λ (xs : List ℕ). length xs) e in
        let l = was.load in omega arith
      where
        on : (b : Bool) → false ≡ not b → b ≡ true
        on true is = refl
        on false is = absurd (cc)

-- A walk: the marked nodes were met, where `next x y` says that a step leads from x to y, and the steps of those that do
-- not wait were taken.
pub record Fills (IsMet : ℕ → Type 0) (next : ℕ → ℕ → Type 0) (wave : WaveView) : Type 0 where
  pub met : (y : ℕ) → is_marked wave.marks y ≡ true → IsMet y
  pub closed : (x y : ℕ) → is_marked wave.marks x ≡ true → next x y → (is_marked wave.marks y ≡ true) ⊎ Among x wave.waiting

module _ (IsMet : ℕ → Type 0) (next : ℕ → ℕ → Type 0) where
  -- one node is handed out, and the steps from it are taken
  pub fills_next : (w1 w2 w3 : WaveView) (node : ℕ) (P : ℕ → Type 0) → Fills IsMet next w1
      → w1.waiting ≡ node ∷ w2.waiting → w2.marks ≡ w1.marks → Puts w2 w3 P → ((y : ℕ) → P y → IsMet y)
      → ((y : ℕ) → next node y → is_marked w3.marks y ≡ true) → Fills IsMet next w3
  fills_next w1 w2 w3 node P was popped marks puts met taken = record {
    met = λ y on. elim (puts.from y on) [ inl b ↦ was.met y (back y b) | inr p ↦ met y p ];
    closed = λ x y on step. elim (puts.waits x on) [
      | inr waits ↦ inr waits
      | inl b ↦ elim (was.closed x y (back x b) step) [
        | inl is ↦ inl (puts.kept_marks y (ap (λ (m : List Bool). is_marked m y) marks ∙ is))
        | inr waits ↦ elim (subst (λ (xs : List ℕ). Among x xs) popped waits) [
          | inl same ↦ inl (taken y (subst (λ (z : ℕ). next z y) same step))
          | inr rest ↦ inr (puts.kept x rest)
        ]
      ]
    ];
  }
    where
      back : (o : ℕ) → is_marked w2.marks o ≡ true → is_marked w1.marks o ≡ true
      back o a = ap (λ (m : List Bool). is_marked m o) (sym marks) ∙ a

  -- once none waits, all steps were taken
  pub fills_all : (w1 : WaveView) → Fills IsMet next w1 → w1.waiting ≡ [] → (x y : ℕ) → is_marked w1.marks x ≡ true
      → next x y → is_marked w1.marks y ≡ true
  fills_all w1 was none x y on step = elim (was.closed x y on step) [
    | inl is ↦ is
    | inr waits ↦ absurd (subst (λ (xs : List ℕ). Among x xs) none waits)
  ]

-- a walk begins in a free wave
module _ (n start : ℕ) (was : Bool) (w0 w1 : WaveView) (free : IsFree n w0) (low : start < n)
    (fresh : was ≡ not (is_marked w0.marks start)) (marks : w1.marks ≡ slice_set w0.marks start true)
    (waiting : w1.waiting ≡ cond was (w0.waiting ++ start ∷ []) w0.waiting) where
  pub first_put : Puts w0 w1 (λ o. o ≡ start)
  first_put = puts_more w0 w0 w1 (λ o. o ≡ start) start was (puts_none w0 (λ o. o ≡ start)) refl
      (let r = free.room in omega arith) fresh marks waiting

  -- the node is marked, it alone, and waits
  pub first_on : is_marked w1.marks start ≡ true
  first_on = ap (λ (m : List Bool). is_marked m start) marks
      ∙ (marked_more w0.marks start start (let r = free.room in omega arith)).1 (inr refl)

  pub first_alone : (o : ℕ) → is_marked w1.marks o ≡ true → o ≡ start
  first_alone o on = elim (first_put.from o on) [
    | inl was ↦ absurd (false≢true (sym (free.none o) ∙ was))
    | inr same ↦ same
  ]

  pub first_waits : (o : ℕ) → is_marked w1.marks o ≡ true → Among o w1.waiting
  first_waits o on = elim (first_put.waits o on) [
    | inl was ↦ absurd (false≢true (sym (free.none o) ∙ was))
    | inr waits ↦ waits
  ]

  pub first_fills : (IsMet : ℕ → Type 0) (next : ℕ → ℕ → Type 0) → IsMet start → Fills IsMet next w1
  first_fills IsMet next met = record {
    met = λ y on. subst IsMet (sym (first_alone y on)) met;
    closed = λ x y on step. inr (first_waits x on);
  }

-- marked nodes stay below n, where those put last are
pub puts_below : (n : ℕ) (w1 w2 w3 : WaveView) (P : ℕ → Type 0) → w2.marks ≡ w1.marks → Puts w2 w3 P
    → ((o : ℕ) → P o → o < n) → IsMarkedBelow n w1 → IsMarkedBelow n w3
puts_below n w1 w2 w3 P marks puts within below o on = elim (puts.from o on) [
  | inl was ↦ below o (ap (λ (m : List Bool). is_marked m o) (sym marks) ∙ was)
  | inr p ↦ within o p
]
