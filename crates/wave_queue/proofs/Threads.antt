-- Threads of nodes, after a node is put last or handed out.
use Rattle.std.proofs.Common.{◌≡◌, ◌≢◌, ◌⊎◌, inl, inr, ℕ, zero, suc, ◌<◌, ◌≤◌, ◌+◌, ◌-◌, Bool, true, false, List, [], ◌∷◌, ◌++◌, length, refl, sym, ap, ◌∙◌, subst, arith}
use Rattle.std.specs.Prelude.{◌↔◌, ◌==◌, slice_index_or, slice_set, replicate}
use Rattle.std.proofs.lemmas.Bool.{cases_eq, eq-eqb, ne_eqb, false≢true}
use Rattle.std.proofs.lemmas.List.{get_or_read, get_or-set_same, get_or-set_other, length-set, length-append, length-replicate}
use Rattle.walks.specs.Walk.{Among, IsOnce}
use Rattle.walks.proofs.Counting.{few_below}
use Rattle.wave_queue.specs.Thread.{is_marked, marks_by, nodes_between, IsThread, IsPast, Stands, WaveView, open_count}

-- a node that gets the stamp is marked
pub marks_set : (stamp : ℕ) (stamps : List ℕ) (o : ℕ)
    → marks_by stamp (slice_set stamps o stamp) ≡ slice_set (marks_by stamp stamps) o true
marks_set stamp [] zero = refl
marks_set stamp [] (suc o) = refl
marks_set stamp (first ∷ rest) zero = ap (λ (b : Bool). b ∷ marks_by stamp rest) (eq-eqb stamp stamp refl)
marks_set stamp (first ∷ rest) (suc o) = ap (λ (marks : List Bool). (first == stamp) ∷ marks) (marks_set stamp rest o)

pub marks_long : (stamp : ℕ) (stamps : List ℕ) → length (marks_by stamp stamps) ≡ length stamps
marks_long stamp [] = refl
marks_long stamp (first ∷ rest) = ap suc (marks_long stamp rest)

pub marks_read : (stamp : ℕ) (stamps : List ℕ) (o : ℕ) → o < length stamps
    → is_marked (marks_by stamp stamps) o ≡ (slice_index_or stamps o 0 == stamp)
marks_read stamp [] o low = absurd (omega arith)
marks_read stamp (first ∷ rest) zero low = refl
marks_read stamp (first ∷ rest) (suc o) low = let l : o < length rest = omega arith in marks_read stamp rest o l

-- what is read at a node's place tells whether it is marked
pub marked_is : (stamp : ℕ) (stamps : List ℕ) (place node read : ℕ) → place ≡ node
    → read ≡ slice_index_or stamps place read → node < length (marks_by stamp stamps)
    → is_marked (marks_by stamp stamps) node ≡ (read == stamp)
marked_is stamp stamps place node read at is low =
    let long = marks_long stamp stamps in
    let within : place < length stamps = omega arith in
    marks_read stamp stamps node (omega arith)
    ∙ ap (λ (z : ℕ). z == stamp)
    (sym (get_or_read stamps place read within is 0 ∙ ap (λ (z : ℕ). slice_index_or stamps z 0) at))

pub on_read : (stamp : ℕ) (stamps : List ℕ) (place node read : ℕ) → place ≡ node
    → read ≡ slice_index_or stamps place read → node < length (marks_by stamp stamps) → read ≡ stamp
    → is_marked (marks_by stamp stamps) node ≡ true
on_read stamp stamps place node read at is low same =
    marked_is stamp stamps place node read at is low ∙ eq-eqb read stamp same

pub off_read : (stamp : ℕ) (stamps : List ℕ) (place node read : ℕ) → place ≡ node
    → read ≡ slice_index_or stamps place read → node < length (marks_by stamp stamps) → (read ≡ stamp → ⊥)
    → is_marked (marks_by stamp stamps) node ≡ false
off_read stamp stamps place node read at is low other =
    marked_is stamp stamps place node read at is low ∙ ne_eqb read stamp other

-- nodes more, none of them marked
marks_more : (stamp : ℕ) (stamps : List ℕ) (n : ℕ) → 0 < stamp
    → marks_by stamp (stamps ++ replicate n 0) ≡ marks_by stamp stamps ++ replicate n false
marks_more stamp [] zero some = refl
marks_more stamp [] (suc n) some =
    ap (λ (b : Bool). b ∷ marks_by stamp (replicate n 0)) (ne_eqb 0 stamp (λ same. absurd (omega arith)))
    ∙ ap (λ (marks : List Bool). false ∷ marks) (marks_more stamp [] n some)
marks_more stamp (first ∷ rest) n some = ap (λ (marks : List Bool). (first == stamp) ∷ marks)
    (marks_more stamp rest n some)

-- a stamp that is to come marks no node
pub marks_none : (stamp : ℕ) (stamps : List ℕ) (o : ℕ) → ((k : ℕ) → slice_index_or stamps k 0 < stamp)
    → is_marked (marks_by stamp stamps) o ≡ false
marks_none stamp [] zero low = refl
marks_none stamp [] (suc o) low = refl
marks_none stamp (first ∷ rest) zero low = ne_eqb first stamp
    (λ same. let l : first < stamp = low zero in absurd (omega arith))
marks_none stamp (first ∷ rest) (suc o) low = marks_none stamp rest o (λ k. low (suc k))

pub marked_within : (marks : List Bool) (o : ℕ) → is_marked marks o ≡ true → o < length marks
marked_within [] zero is = absurd (cc)
marked_within [] (suc o) is = absurd (cc)
marked_within (mark ∷ marks) zero is = omega arith
marked_within (mark ∷ marks) (suc o) is = let low = marked_within marks o is in omega arith

pub marked_more : (marks : List Bool) (node o : ℕ) → node < length marks
    → (is_marked (slice_set marks node true) o ≡ true) ↔ ((is_marked marks o ≡ true) ⊎ (o ≡ node))
marked_more marks node o low = elim (cases_eq o node) [
  | inl here ↦ (
    λ on. inr here,
    λ a. ap (λ (z : ℕ). is_marked (slice_set marks node true) z) here
        ∙ get_or-set_same marks node true false low,
  )
  | inr other ↦ (
    λ on. inl (sym (get_or-set_other marks node o true false other) ∙ on),
    λ a. elim a [ inl on ↦ get_or-set_other marks node o true false other ∙ on | inr here ↦ absurd (other here) ],
  )
]

pub among_last : (o : ℕ) (xs : List ℕ) (y : ℕ) → Among o (xs ++ y ∷ []) ↔ (Among o xs ⊎ (o ≡ y))
among_last o [] y = (
  λ a. elim a [ inl same ↦ inr same | inr none ↦ absurd none ],
  λ a. elim a [ inl none ↦ absurd none | inr same ↦ inl same ],
)
among_last o (x ∷ xs) y = (
  λ a. elim a [
    | inl same ↦ inl (inl same)
    | inr rest ↦ elim ((among_last o xs y).0 rest) [ inl b ↦ inl (inr b) | inr same ↦ inr same ]
  ],
  λ a. elim a [
    | inl b ↦ elim b [ inl same ↦ inl same | inr rest ↦ inr ((among_last o xs y).1 (inl rest)) ]
    | inr same ↦ inr ((among_last o xs y).1 (inr same))
  ],
)

pub once_last : (xs : List ℕ) (y : ℕ) → IsOnce xs → (Among y xs → ⊥) → IsOnce (xs ++ y ∷ [])
once_last [] y once apart = (λ a. a, tt)
once_last (x ∷ xs) y once apart = (
  λ a. elim ((among_last x xs y).0 a) [ inl b ↦ once.0 b | inr same ↦ apart (inl (sym same)) ],
  once_last xs y once.1 (λ a. apart (inr a)),
)

same_before : {o k : ℕ} → suc o ≡ suc k → o ≡ k
same_before same = omega arith

-- a thread of some nodes ends behind one of them
thread_end : (nexts : List ℕ) (at o : ℕ) (nodes : List ℕ) (last : ℕ) → IsThread nexts at (o ∷ nodes) last
    → (l : ℕ) × ((last ≡ suc l) × Among l (o ∷ nodes))
thread_end nexts at o [] last thread = (o, (sym thread.1, inl refl))
thread_end nexts at o (x ∷ nodes) last thread =
    let e = thread_end nexts (suc o) x nodes last thread.1 in (e.0, (e.1.0, inr e.1.1))

-- and so not where it begins
thread_on : (nexts : List ℕ) (at o : ℕ) (nodes : List ℕ) (last : ℕ) → IsThread nexts at (o ∷ nodes) last
    → IsPast at (o ∷ nodes) → at ≡ last → ⊥
thread_on nexts at o nodes last thread past same =
    let e = thread_end nexts at o nodes last thread in past e.0 (same ∙ e.1.0) e.1.1

past_first : (o : ℕ) (nodes : List ℕ) → (Among o nodes → ⊥) → IsPast (suc o) nodes
past_first o nodes none k same a = none (subst (λ (z : ℕ). Among z nodes) (same_before (sym same)) a)

-- a thread of few nodes is read whole
pub thread_read : (nexts : List ℕ) (n at : ℕ) (nodes : List ℕ) (last : ℕ) → IsThread nexts at nodes last
    → IsOnce nodes → IsPast at nodes → length nodes ≤ n → nodes_between nexts n at last ≡ nodes
unfolding nodes_between
thread_read nexts zero at [] last thread once past few = refl
thread_read nexts zero at (o ∷ nodes) last thread once past few = absurd (omega arith)
thread_read nexts (suc n) at [] last thread once past few = rw (eq-eqb at last thread) refl
thread_read nexts (suc n) at (o ∷ nodes) last thread once past few =
    rw (ne_eqb at last (thread_on nexts at o nodes last thread past), thread.0)
    (ap (λ (xs : List ℕ). o ∷ xs) (thread_read nexts n (suc o) nodes last thread.1 once.1
    (past_first o nodes once.0) (omega arith)))

-- a node more at the end of a thread
thread_longer : (nexts nexts2 : List ℕ) (last node at : ℕ) (nodes : List ℕ) → slice_index_or nexts2 last 0 ≡ node
    → ((k : ℕ) → k ≢ last → slice_index_or nexts2 k 0 ≡ slice_index_or nexts k 0)
    → IsThread nexts at nodes last → IsOnce nodes → IsPast at nodes
    → IsThread nexts2 at (nodes ++ node ∷ []) (suc node)
thread_longer nexts nexts2 last node at [] leads same thread once past = (
  ap (λ (k : ℕ). slice_index_or nexts2 k 0) thread ∙ leads,
  refl,
)
thread_longer nexts nexts2 last node at (o ∷ nodes) leads same thread once past = (
  same at (thread_on nexts at o nodes last thread past) ∙ thread.0,
  thread_longer nexts nexts2 last node (suc o) nodes leads same thread.1 once.1 (past_first o nodes once.0),
)

-- what holds of the node where a thread begins, and of its nodes, holds of the one where it ends
thread_ends_by : (P : ℕ → Type 0) (nexts : List ℕ) (at : ℕ) (nodes : List ℕ) (last : ℕ) → IsThread nexts at nodes last
    → ((o : ℕ) → at ≡ suc o → P o) → ((o : ℕ) → Among o nodes → P o) → (l : ℕ) → last ≡ suc l → P l
thread_ends_by P nexts at [] last thread begins each l is = begins l (thread ∙ is)
thread_ends_by P nexts at (o ∷ nodes) last thread begins each l is =
    let e = thread_end nexts at o nodes last thread in
    subst P (same_before (sym e.1.0 ∙ is)) (each e.0 e.1.1)

-- the first of a thread, and the rest of it
thread_cut : (nexts : List ℕ) (at : ℕ) (nodes : List ℕ) (last : ℕ) → IsThread nexts at nodes last → (at ≡ last → ⊥)
    → (rest : List ℕ) × ((nodes ≡ slice_index_or nexts at 0 ∷ rest)
    × IsThread nexts (suc (slice_index_or nexts at 0)) rest last)
thread_cut nexts at [] last thread other = absurd (other thread)
thread_cut nexts at (o ∷ nodes) last thread other = (
  nodes,
  (
    ap (λ (z : ℕ). z ∷ nodes) (sym thread.0),
    subst (λ (z : ℕ). IsThread nexts (suc z) nodes last) (sym thread.0) thread.1,
  ),
)

marked_low : (stamp : ℕ) (stamps : List ℕ) (o : ℕ) → is_marked (marks_by stamp stamps) o ≡ true → o < length stamps
marked_low stamp stamps o on =
    let low = marked_within (marks_by stamp stamps) o on in
    let long = marks_long stamp stamps in omega arith

-- the nodes that wait are those that are read on the way to the last one
pub waiting_is : (stamp : ℕ) (stamps nexts : List ℕ) (done last : ℕ) (s : Stands stamp stamps nexts done last)
    → nodes_between nexts (length nexts) done last ≡ s.waiting
waiting_is stamp stamps nexts done last s = thread_read nexts (length nexts) done s.waiting last s.thread s.once s.past
    (few (length stamps) (few_below (length stamps) s.waiting s.once
    (λ o a. marked_low stamp stamps o (s.marked o a))) s.long)
  where
    few : (n : ℕ) → length s.waiting ≤ n → (0 < n → n < length nexts) → length s.waiting ≤ length nexts
    few zero short long = omega arith
    few (suc n) short long = let l = long (omega arith) in omega arith

-- a place that is 0, or that of a marked node, is there
place_low : (stamp : ℕ) (stamps nexts : List ℕ) (at : ℕ) → 0 < length stamps
    → (0 < length stamps → length stamps < length nexts)
    → ((o : ℕ) → at ≡ suc o → is_marked (marks_by stamp stamps) o ≡ true) → at < length nexts
place_low stamp stamps nexts zero some long marked = let l = long some in omega arith
place_low stamp stamps nexts (suc o) some long marked =
    let l = long some in let low = marked_low stamp stamps o (marked o refl) in omega arith

pub last_low : (stamp : ℕ) (stamps nexts : List ℕ) (done last : ℕ) (s : Stands stamp stamps nexts done last)
    → 0 < length stamps → last < length nexts
last_low stamp stamps nexts done last s some = place_low stamp stamps nexts last some s.long
    (thread_ends_by (λ (o : ℕ). is_marked (marks_by stamp stamps) o ≡ true) nexts done s.waiting last s.thread s.out
    s.marked)

-- a node is marked
pub stands_marked : (stamp : ℕ) (stamps nexts : List ℕ) (done last : ℕ) (s : Stands stamp stamps nexts done last)
    (node : ℕ) → node < length (marks_by stamp stamps) → Stands stamp (slice_set stamps node stamp) nexts done last
stands_marked stamp stamps nexts done last s node within = record {
  waiting = s.waiting;
  thread = s.thread;
  once = s.once;
  past = s.past;
  marked = λ o a. now o (inl (s.marked o a));
  out = λ o is. now o (inl (s.out o is));
  came = came;
  some = s.some;
  long = λ some. let a = length-set stamps node stamp in let l = s.long (omega arith) in omega arith;
}
  where
    low : node < length stamps
    low = let l = marks_long stamp stamps in omega arith

    now : (o : ℕ) → (is_marked (marks_by stamp stamps) o ≡ true) ⊎ (o ≡ node)
        → is_marked (marks_by stamp (slice_set stamps node stamp)) o ≡ true
    now o on = ap (λ (marks : List Bool). is_marked marks o) (marks_set stamp stamps node)
        ∙ (marked_more (marks_by stamp stamps) node o within).1 on

    came : (o : ℕ) → slice_index_or (slice_set stamps node stamp) o 0 ≤ stamp
    came o = elim (cases_eq o node) [
      | inl here ↦
          let e = ap (λ (z : ℕ). slice_index_or (slice_set stamps node stamp) z 0) here
          ∙ get_or-set_same stamps node stamp 0 low in omega arith
      | inr other ↦ let e = get_or-set_other stamps node o stamp 0 other in let l = s.came o in omega arith
    ]

-- a node is put last
pub stands_put : (stamp : ℕ) (stamps nexts : List ℕ) (done last : ℕ) (s : Stands stamp stamps nexts done last)
    (node place : ℕ) → place ≡ node → node < length (marks_by stamp stamps)
    → is_marked (marks_by stamp stamps) node ≡ false
    → (t : Stands stamp (slice_set stamps node stamp) (slice_set nexts last node) done (place + 1))
    × (t.waiting ≡ s.waiting ++ node ∷ [])
stands_put stamp stamps nexts done last s node place at within unmarked = (
  record {
    waiting = s.waiting ++ node ∷ [];
    thread = subst (λ (z : ℕ). IsThread (slice_set nexts last node) done (s.waiting ++ node ∷ []) z) behind
        (thread_longer nexts (slice_set nexts last node) last node done s.waiting
        (get_or-set_same nexts last node 0 (last_low stamp stamps nexts done last s (let l = low in omega arith)))
        (λ k other. get_or-set_other nexts last k node 0 other) s.thread s.once s.past);
    once = once_last s.waiting node s.once (λ a. false≢true (sym unmarked ∙ s.marked node a));
    past = λ o is a. elim ((among_last o s.waiting node).0 a) [
      | inl was ↦ s.past o is was
      | inr same ↦ false≢true (sym unmarked
          ∙ subst (λ (z : ℕ). is_marked (marks_by stamp stamps) z ≡ true) same (s.out o is))
    ];
    marked = λ o a. now o (elim ((among_last o s.waiting node).0 a) [
      | inl was ↦ inl (s.marked o was)
      | inr same ↦ inr same
    ]);
    out = λ o is. now o (inl (s.out o is));
    came = came;
    some = s.some;
    long = λ some. let a = length-set stamps node stamp in let b = length-set nexts last node in
        let l = s.long (omega arith) in omega arith;
  },
  refl,
)
  where
    low : node < length stamps
    low = let l = marks_long stamp stamps in omega arith

    behind : suc node ≡ place + 1
    behind = omega arith

    now : (o : ℕ) → (is_marked (marks_by stamp stamps) o ≡ true) ⊎ (o ≡ node)
        → is_marked (marks_by stamp (slice_set stamps node stamp)) o ≡ true
    now o on = ap (λ (marks : List Bool). is_marked marks o) (marks_set stamp stamps node)
        ∙ (marked_more (marks_by stamp stamps) node o within).1 on

    came : (o : ℕ) → slice_index_or (slice_set stamps node stamp) o 0 ≤ stamp
    came o = elim (cases_eq o node) [
      | inl here ↦
          let e = ap (λ (z : ℕ). slice_index_or (slice_set stamps node stamp) z 0) here
          ∙ get_or-set_same stamps node stamp 0 low in omega arith
      | inr other ↦ let e = get_or-set_other stamps node o stamp 0 other in let l = s.came o in omega arith
    ]

-- the first that waits is handed out
pub stands_taken : (stamp : ℕ) (stamps nexts : List ℕ) (done last : ℕ) (s : Stands stamp stamps nexts done last)
    → (done ≡ last → ⊥) → done < length nexts → (node place : ℕ) → node ≡ slice_index_or nexts done node
    → place ≡ node
    → (t : Stands stamp stamps nexts (place + 1) last) × (s.waiting ≡ node ∷ t.waiting)
stands_taken stamp stamps nexts done last s other within node place is at = (
  record {
    waiting = cut.0;
    thread = subst (λ (z : ℕ). IsThread nexts z cut.0 last) behind cut.1.1;
    once = once.1;
    past = subst (λ (z : ℕ). IsPast z cut.0) behind (past_first (slice_index_or nexts done 0) cut.0 once.0);
    marked = λ o a. s.marked o (subst (λ (xs : List ℕ). Among o xs) (sym cut.1.0) (inr a));
    out = λ o same. s.marked o (subst (λ (xs : List ℕ). Among o xs) (sym cut.1.0)
        (inl (let e = read in omega arith)));
    came = s.came;
    some = s.some;
    long = s.long;
  },
  cut.1.0 ∙ ap (λ (z : ℕ). z ∷ cut.0) (sym read),
)
  where
    cut : (rest : List ℕ) × ((s.waiting ≡ slice_index_or nexts done 0 ∷ rest)
        × IsThread nexts (suc (slice_index_or nexts done 0)) rest last)
    cut = thread_cut nexts done s.waiting last s.thread other

    once : IsOnce (slice_index_or nexts done 0 ∷ cut.0)
    once = subst IsOnce cut.1.0 s.once

    read : node ≡ slice_index_or nexts done 0
    read = get_or_read nexts done node within is 0

    behind : suc (slice_index_or nexts done 0) ≡ place + 1
    behind = let e = read in omega arith

-- its place is there, and it is marked
pub first_low : (stamp : ℕ) (stamps nexts : List ℕ) (done last : ℕ) (s : Stands stamp stamps nexts done last)
    → (done ≡ last → ⊥) → done < length nexts
first_low stamp stamps nexts done last s other =
    let cut = thread_cut nexts done s.waiting last s.thread other in
    let low = marked_low stamp stamps (slice_index_or nexts done 0) (s.marked (slice_index_or nexts done 0)
    (subst (λ (xs : List ℕ). Among (slice_index_or nexts done 0) xs) (sym cut.1.0) (inl refl))) in
    place_low stamp stamps nexts done (omega arith) s.long s.out

pub first_marked : (stamp : ℕ) (stamps nexts : List ℕ) (done last : ℕ) (s : Stands stamp stamps nexts done last)
    (node : ℕ) (rest : List ℕ) → s.waiting ≡ node ∷ rest → is_marked (marks_by stamp stamps) node ≡ true
first_marked stamp stamps nexts done last s node rest is =
    s.marked node (subst (λ (xs : List ℕ). Among node xs) (sym is) (inl refl))

pub first_within : (stamp : ℕ) (stamps nexts : List ℕ) (done last : ℕ) (s : Stands stamp stamps nexts done last)
    (node : ℕ) (rest : List ℕ) → s.waiting ≡ node ∷ rest → node < length stamps
first_within stamp stamps nexts done last s node rest is =
    marked_low stamp stamps node (first_marked stamp stamps nexts done last s node rest is)

-- no node waits
pub stands_free : (stamp : ℕ) (stamps nexts : List ℕ) → 0 < stamp → ((o : ℕ) → slice_index_or stamps o 0 ≤ stamp)
    → (0 < length stamps → length stamps < length nexts) → Stands stamp stamps nexts 0 0
stands_free stamp stamps nexts some came long = record {
  waiting = [];
  thread = refl;
  once = tt;
  past = λ o is a. a;
  marked = λ o a. absurd a;
  out = λ o is. absurd (omega arith);
  came = came;
  some = some;
  long = long;
}

pub read_none : (nexts : List ℕ) (n at : ℕ) → nodes_between nexts n at at ≡ []
unfolding nodes_between
read_none nexts zero at = refl
read_none nexts (suc n) at = rw (eq-eqb at at refl) refl

abbrev wave_view : List Bool → List ℕ → WaveView
wave_view marks waiting = record { marks = marks; waiting = waiting }

-- nodes more, none of them marked
marks_wider : (marks : List Bool) (n o : ℕ) → is_marked (marks ++ replicate n false) o ≡ is_marked marks o
marks_wider [] zero o = refl
marks_wider [] (suc n) zero = refl
marks_wider [] (suc n) (suc o) = marks_wider [] n o ∙ sym (none o)
  where
    none : (o : ℕ) → is_marked [] (suc o) ≡ is_marked [] o
    none zero = refl
    none (suc o) = refl
marks_wider (mark ∷ marks) n zero = refl
marks_wider (mark ∷ marks) n (suc o) = marks_wider marks n o

zeros_wider : (items : List ℕ) (n o : ℕ) → slice_index_or (items ++ replicate n 0) o 0 ≡ slice_index_or items o 0
zeros_wider [] zero o = refl
zeros_wider [] (suc n) zero = refl
zeros_wider [] (suc n) (suc o) = zeros_wider [] n o ∙ sym (none o 0)
  where
    none : (o d : ℕ) → slice_index_or [] (suc o) d ≡ slice_index_or [] o d
    none zero d = refl
    none (suc o) d = refl
zeros_wider (item ∷ items) n zero = refl
zeros_wider (item ∷ items) n (suc o) = zeros_wider items n o

thread_wider : (nexts : List ℕ) (n at : ℕ) (nodes : List ℕ) (last : ℕ) → IsThread nexts at nodes last
    → IsThread (nexts ++ replicate n 0) at nodes last
thread_wider nexts n at [] last thread = thread
thread_wider nexts n at (o ∷ nodes) last thread = (
  zeros_wider nexts n at ∙ thread.0,
  thread_wider nexts n (suc o) nodes last thread.1,
)

pub stands_wider : (stamp : ℕ) (stamps nexts : List ℕ) (done last : ℕ) (s : Stands stamp stamps nexts done last)
    (n m : ℕ) → (0 < length stamps + n → length stamps + n < length nexts + m)
    → (t : Stands stamp (stamps ++ replicate n 0) (nexts ++ replicate m 0) done last) × (t.waiting ≡ s.waiting)
stands_wider stamp stamps nexts done last s n m long = (
  record {
    waiting = s.waiting;
    thread = thread_wider nexts m done s.waiting last s.thread;
    once = s.once;
    past = s.past;
    marked = λ o a. now o ∙ s.marked o a;
    out = λ o is. now o ∙ s.out o is;
    came = λ o. let e = zeros_wider stamps n o in let l = s.came o in omega arith;
    some = s.some;
    long = λ some. let a = length-append stamps (replicate n 0) in let b = length-append nexts (replicate m 0) in
        let c = length-replicate {A = ℕ} n 0 in let d = length-replicate {A = ℕ} m 0 in let l = long (omega arith) in
        omega arith;
  },
  refl,
)
  where
    now : (o : ℕ) → is_marked (marks_by stamp (stamps ++ replicate n 0)) o ≡ is_marked (marks_by stamp stamps) o
    now o = ap (λ (marks : List Bool). is_marked marks o) (marks_more stamp stamps n s.some)
        ∙ marks_wider (marks_by stamp stamps) n o

-- so many nodes and places more leave a place more than nodes
pub wider_long : (s n l m nodes : ℕ) → n ≡ nodes - s → m ≡ nodes + 1 - l → (0 < s → s < l) → 0 < s + n
    → s + n < l + m
wider_long zero n l m nodes more places long some = omega arith
wider_long (suc s) n l m nodes more places long some = let x = long (omega arith) in omega arith

pub wider_view : (stamp : ℕ) (stamps nexts : List ℕ) (done last : ℕ) (s : Stands stamp stamps nexts done last)
    (n m k : ℕ) → (0 < length stamps + n → length stamps + n < length nexts + m) → n ≡ k
    → record {
      marks = marks_by stamp (stamps ++ replicate n 0);
      waiting = nodes_between (nexts ++ replicate m 0) (length (nexts ++ replicate m 0)) done last;
    }
    ≡ wave_view (marks_by stamp stamps ++ replicate k false) (nodes_between nexts (length nexts) done last)
wider_view stamp stamps nexts done last s n m k long is =
    let t = stands_wider stamp stamps nexts done last s n m long in
    let w = waiting_is stamp (stamps ++ replicate n 0) (nexts ++ replicate m 0) done last t.0 ∙ t.1
    ∙ sym (waiting_is stamp stamps nexts done last s) in
    ap (λ (xs : List ℕ). wave_view (marks_by stamp (stamps ++ replicate n 0)) xs) w
    ∙ ap (λ (marks : List Bool). wave_view marks (nodes_between nexts (length nexts) done last))
    (marks_more stamp stamps n s.some)
    ∙ ap (λ (j : ℕ). wave_view (marks_by stamp stamps ++ replicate j false)
    (nodes_between nexts (length nexts) done last)) is

-- how many are not marked, with one more mark
pub open_less : (marks : List Bool) (o : ℕ) → o < length marks → is_marked marks o ≡ false
    → open_count marks ≡ suc (open_count (slice_set marks o true))
open_less [] o low off = absurd (omega arith)
open_less (true ∷ marks) zero low off = absurd (cc)
open_less (false ∷ marks) zero low off = omega arith
open_less (true ∷ marks) (suc o) low off = let l : o < length marks = omega arith in
    let e = open_less marks o l off in omega arith
open_less (false ∷ marks) (suc o) low off = let l : o < length marks = omega arith in
    let e = open_less marks o l off in omega arith

pub open_same : (marks : List Bool) (o : ℕ) → is_marked marks o ≡ true
    → open_count (slice_set marks o true) ≡ open_count marks
open_same [] zero on = absurd (cc)
open_same [] (suc o) on = absurd (cc)
open_same (true ∷ marks) zero on = refl
open_same (false ∷ marks) zero on = absurd (cc)
open_same (true ∷ marks) (suc o) on = let e = open_same marks o on in omega arith
open_same (false ∷ marks) (suc o) on = let e = open_same marks o on in omega arith
