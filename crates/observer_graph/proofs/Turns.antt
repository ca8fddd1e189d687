-- Walks down from a node and up from a node, a pair at a time.
use Rattle.std.proofs.Common.{◌≡◌, ◌⊎◌, inl, inr, ℕ, suc, ◌+◌, ◌*◌, ◌<◌, Bool, true, false, List, [], ◌∷◌, ◌++◌, length, refl, sym, ◌∙◌, ap, subst, arith, Option, Some, None, cond}
use Rattle.std.specs.Prelude.{◌↔◌, ◌==◌, not, slice_set, slice_index_or, IfSome}
use Rattle.std.proofs.lemmas.Bool.{eqb-true, eq-eqb, false≢true}
use Rattle.std.proofs.lemmas.List.{length-append}
use Rattle.walks.specs.Walk.{Among, Below}
use Rattle.walks.specs.Walk.Below.{next, beyond}
use Rattle.walks.proofs.Ranks.{meets_on, meets_next}
use Rattle.wave_queue.specs.Thread.{WaveView, is_marked, open_count}
use Rattle.wave_queue.proofs.Threads.{marked_more, open_less, open_same}
use Rattle.observer_graph.specs.Walks.{Leads}
use Rattle.edge_lists.specs.EdgesView.{EdgesView, IsPair, IsWhole, HasSubject, HasObserver, subject_lists, subjects_from, observers_from}
use Rattle.edge_lists.proofs.Linking.{live_within}
use Rattle.edge_lists.proofs.Listing.{edge_ahead, edge_beneath, observers_none, subjects_none}
use Rattle.observer_graph.specs.declared.node.Node.{Node}
use Rattle.observer_graph.specs.GraphView.{edges_as}
use Rattle.observer_graph.specs.Lists.{list_at}
use Rattle.observer_graph.specs.Turns.{IsFree, IsMarkedBelow, HasSomeObserver, HasSomeSubject, Goes, Descends, Ascends, reads_in}
use Rattle.observer_graph.proofs.Edges.{edge_pair}
use Rattle.observer_graph.proofs.Members.{among_left, among_last}
use Rattle.observer_graph.proofs.SubjectLists.{among_listed}

-- what a push does
pub record Pushes (node : ℕ) (was : Bool) (old new : WaveView) : Type 0 where
  pub fresh : was ≡ not (is_marked old.marks node)
  pub marks : new.marks ≡ slice_set old.marks node true
  pub waiting : new.waiting ≡ cond was (old.waiting ++ node ∷ []) old.waiting

-- who waited waits still
still_waits : (was : Bool) (waiting new : List ℕ) (node x : ℕ) → new ≡ cond was (waiting ++ node ∷ []) waiting
    → Among x waiting → Among x new
still_waits true waiting new node x is a = subst (Among x) (sym is) (among_left x waiting (node ∷ []) a)
still_waits false waiting new node x is a = subst (Among x) (sym is) a

module _ (node : ℕ) (was : Bool) (old new : WaveView) (pushed : Pushes node was old new) (low : node < length old.marks) where
  more : (o : ℕ) → (is_marked new.marks o ≡ true) ↔ ((is_marked old.marks o ≡ true) ⊎ (o ≡ node))
  more o = subst (λ (m : List Bool). (is_marked m o ≡ true) ↔ ((is_marked old.marks o ≡ true) ⊎ (o ≡ node)))
      (sym pushed.marks) (marked_more old.marks node o low)

  -- a node that was not marked waits
  fresh_waits : (is_marked old.marks node ≡ true) ⊎ Among node new.waiting
  fresh_waits = by was refl
    where
      marked_if : (b : Bool) → false ≡ not b → b ≡ true
      marked_if true is = refl
      marked_if false is = absurd (false≢true is)

      by : (b : Bool) → was ≡ b → (is_marked old.marks node ≡ true) ⊎ Among node new.waiting
      by true is = inr (subst (Among node) (sym (pushed.waiting ∙ ap (λ (b : Bool). cond b (old.waiting ++ node ∷ []) old.waiting) is))
          ((among_last node old.waiting node).1 (inr refl)))
      by false is = inl (marked_if (is_marked old.marks node) (sym is ∙ pushed.fresh))

  module _ (pair next : ℕ → ℕ → Type 0) (IsMet : ℕ → Type 0) (start : ℕ) where
    -- the end of the next pair is met
    pub goes_met : (rest : List ℕ) → IsMet node → Goes pair next IsMet start old (node ∷ rest)
        → Goes pair next IsMet start new rest
    goes_met rest met g = record {
      first = (more start).1 (inl g.first);
      sound = λ y on. elim ((more y).0 on) [ inl was ↦ g.sound y was | inr same ↦ subst IsMet (sym same) met ];
      paired = λ y a. let h = g.paired y (inr a) in (h.0, (more h.0).1 (inl h.1), h.2);
      closed = λ x y on step. elim ((more x).0 on) [
        | inl was ↦ before x y was step
        | inr same ↦ elim fresh_waits [
          | inl was ↦ before x y (subst (λ (z : ℕ). is_marked old.marks z ≡ true) (sym same) was) step
          | inr waits ↦ inr (inl (subst (λ (z : ℕ). Among z new.waiting) (sym same) waits))
        ]
      ];
    }
      where
        before : (x y : ℕ) → is_marked old.marks x ≡ true → next x y
            → (is_marked new.marks y ≡ true) ⊎ (Among x new.waiting ⊎ Among y rest)
        before x y on step = elim (g.closed x y on step) [
          | inl marked ↦ inl ((more y).1 (inl marked))
          | inr later ↦ elim later [
            | inl waits ↦ inr (inl (still_waits was old.waiting new.waiting node x pushed.waiting waits))
            | inr ahead ↦ elim ahead [
              | inl same ↦ inl ((more y).1 (inr same))
              | inr further ↦ inr (inr further)
            ]
          ]
        ]

    -- a walk begins
    pub goes_first : (n : ℕ) → IsFree n old → IsMet node → node ≡ start → Goes pair next IsMet start new []
    goes_first n free met same = record {
      first = (more start).1 (inr (sym same));
      sound = λ y on. elim ((more y).0 on) [
        | inl was ↦ absurd (false≢true (sym (free.none y) ∙ was))
        | inr is ↦ subst IsMet (sym is) met
      ];
      paired = λ y a. absurd a;
      closed = λ x y on step. elim ((more x).0 on) [
        | inl was ↦ absurd (false≢true (sym (free.none x) ∙ was))
        | inr is ↦ elim fresh_waits [
          | inl was ↦ absurd (false≢true (sym (free.none node) ∙ was))
          | inr waits ↦ inr (inl (subst (λ (z : ℕ). Among z new.waiting) (sym is) waits))
        ]
      ];
    }

  -- nodes below n alone are marked
  pub marked_below : (n : ℕ) → node < n → IsMarkedBelow n old → IsMarkedBelow n new
  marked_below n within below o on = elim ((more o).0 on) [
    | inl was ↦ below o was
    | inr same ↦ subst (λ (z : ℕ). z < n) (sym same) within
  ]

  -- one that was not marked is, and waits
  pub none_more : open_count new.marks + length new.waiting ≡ open_count old.marks + length old.waiting
  none_more = by was refl
    where
      marked_if : (b : Bool) → false ≡ not b → b ≡ true
      marked_if true is = refl
      marked_if false is = absurd (false≢true is)

      open_if : (b : Bool) → true ≡ not b → b ≡ false
      open_if true is = absurd (false≢true (sym is))
      open_if false is = refl

      by : (b : Bool) → was ≡ b → open_count new.marks + length new.waiting ≡ open_count old.marks + length old.waiting
      by true is =
          let one = open_less old.marks node low (open_if (is_marked old.marks node) (sym is ∙ pushed.fresh)) in
          let marks = ap open_count pushed.marks in
          let longer = ap length (pushed.waiting ∙ ap (λ (b : Bool). cond b (old.waiting ++ node ∷ []) old.waiting) is)
          ∙ length-append old.waiting (node ∷ []) in omega arith
      by false is =
          let same = open_same old.marks node (marked_if (is_marked old.marks node) (sym is ∙ pushed.fresh)) in
          let marks = ap open_count pushed.marks in
          let long = ap length (pushed.waiting ∙ ap (λ (b : Bool). cond b (old.waiting ++ node ∷ []) old.waiting) is) in omega arith

module _ (pair next : ℕ → ℕ → Type 0) (IsMet : ℕ → Type 0) (start : ℕ) where
  -- the end of the next pair is passed by: no step leads to it
  pub goes_past : (wave : WaveView) (y : ℕ) (rest : List ℕ) → ((x : ℕ) → next x y → ⊥)
      → Goes pair next IsMet start wave (y ∷ rest) → Goes pair next IsMet start wave rest
  goes_past wave y rest none g = record {
    first = g.first;
    sound = g.sound;
    paired = λ z a. g.paired z (inr a);
    closed = λ x z on step. elim (g.closed x z on step) [
      | inl marked ↦ inl marked
      | inr later ↦ elim later [
        | inl waits ↦ inr (inl waits)
        | inr ahead ↦ elim ahead [
          | inl same ↦ absurd (none x (subst (next x) same step))
          | inr further ↦ inr (inr further)
        ]
      ]
    ];
  }

  -- the next node that waits is looked at
  pub goes_taken : (old new : WaveView) (node : ℕ) (ahead : List ℕ) → old.waiting ≡ node ∷ new.waiting
      → new.marks ≡ old.marks → is_marked old.marks node ≡ true → ((y : ℕ) → Among y ahead → pair node y)
      → ((y : ℕ) → next node y → Among y ahead) → Goes pair next IsMet start old []
      → Goes pair next IsMet start new ahead
  goes_taken old new node ahead waited same marked pairs all g = subst (λ (m : List Bool). Goes pair next IsMet start
      (record { marks = m; waiting = new.waiting }) ahead) (sym same) (record {
        first = g.first;
        sound = g.sound;
        paired = λ y a. (node, marked, pairs y a);
        closed = λ x y on step. elim (g.closed x y on step) [
          | inl is ↦ inl is
          | inr later ↦ elim later [
            | inl waits ↦ elim (subst (Among x) waited waits) [
              | inl is ↦ inr (inr (all y (subst (λ (z : ℕ). next z y) is step)))
              | inr waits ↦ inr (inl waits)
            ]
            | inr none ↦ absurd none
          ]
        ];
      })

  -- the walk is at its end
  pub goes_all : (wave : WaveView) → wave.waiting ≡ [] → Goes pair next IsMet start wave [] → (x y : ℕ)
      → is_marked wave.marks x ≡ true → next x y → is_marked wave.marks y ≡ true
  goes_all wave none g x y on step = elim (g.closed x y on step) [
    | inl is ↦ is
    | inr later ↦ elim later [ inl waits ↦ absurd (subst (Among x) none waits) | inr ahead ↦ absurd ahead ]
  ]

module _ (reads : ℕ → List ℕ) where
  -- one step further down
  pub leads_down : (from y x : ℕ) → Among x (reads y) → Leads reads from y → Leads reads from x
  leads_down from y x a (inl same) = inr (meets_next reads (λ z. true) x from
      (subst (λ (z : ℕ). Among x (reads z)) (sym same) a))
  leads_down from y x a (inr below) = inr (meets_on reads (λ z. z == x) (λ z. true) y from refl
      (meets_next reads (λ z. true) x y a) below)

  -- one step further up
  pub leads_up : (to y o : ℕ) → Among y (reads o) → Leads reads y to → Leads reads o to
  leads_up to y o a (inl same) = inr (next {x = y} a (eq-eqb y to same))
  leads_up to y o a (inr below) = inr (beyond {x = y} a refl below)

  -- a set that has a node, and each node to which one of it has an edge, has all to which the node leads
  pub down_all : (IsIn : ℕ → Type 0) → ((x y : ℕ) → IsIn x → Among y (reads x) → IsIn y) → (from to : ℕ) → IsIn from
      → Leads reads from to → IsIn to
  down_all IsIn closed from to here (inl same) = subst IsIn same here
  down_all IsIn closed from to here (inr below) = further from here below
    where
      further : (o : ℕ) → IsIn o → Below reads (λ y. y == to) (λ y. true) o → IsIn to
      further o on (next {x = x} a is) = subst IsIn (eqb-true x to is) (closed o x on a)
      further o on (beyond {x = x} a passes below) = further x (closed o x on a) below

  -- a set that has a node, and each node that has an edge to one of it, has all that lead to the node
  pub up_all : (IsIn : ℕ → Type 0) → ((x y : ℕ) → IsIn x → Among x (reads y) → IsIn y) → (from to : ℕ) → IsIn to
      → Leads reads from to → IsIn from
  up_all IsIn closed from to here (inl same) = subst IsIn (sym same) here
  up_all IsIn closed from to here (inr below) = back from below
    where
      back : (o : ℕ) → Below reads (λ y. y == to) (λ y. true) o → IsIn o
      back o (next {x = x} a is) = closed x o (subst IsIn (sym (eqb-true x to is)) here) a
      back o (beyond {x = x} a passes below) = closed x o (back x below) a

-- fewer steps are left: a pair less, or a node less that may have all pairs
pub fewer_pairs : (a b k p q : ℕ) → a ≡ b → p < q → a * k + p < b * k + q
fewer_pairs a b k p q same less = subst (λ (z : ℕ). a * k + p < z * k + q) same (omega arith)

pub fewer_nodes : (a b k p q : ℕ) → suc a ≡ b → p < k → a * k + p < b * k + q
fewer_nodes a b k p q one less = subst (λ (z : ℕ). a * k + p < z * k + q) one (omega arith)

-- a free wave is one of as many nodes
pub free_as : (n m : ℕ) (wave : WaveView) → m ≡ n → IsFree n wave → IsFree m wave
free_as n m wave same free = subst (λ (k : ℕ). IsFree k wave) (sym same) free

-- a wave that was emptied is free
pub free_again : (n : ℕ) (wave used new : WaveView) → IsFree n wave → length used.marks ≡ length wave.marks
    → ((o : ℕ) → is_marked new.marks o ≡ false) → length new.marks ≡ length used.marks → new.waiting ≡ [] → IsFree n new
free_again n wave used new free long none same waiting = record {
  room = let r = free.room in omega arith;
  none = none;
  waiting = waiting;
}

-- the edges of a node are pairs in which it observes
pub pair_given : (nodes : List (Option Node)) (v : EdgesView) → IsWhole v → (x o : ℕ) → Among x (reads_in nodes v o) → IsPair v x o
pair_given nodes v whole x o a = (among_listed v whole x o).0
    (edge_pair (slice_index_or nodes o None) (list_at (subject_lists v) o) x a)

-- the pairs in which a node observes are edges, or none is
pub edge_given : (nodes : List (Option Node)) (v : EdgesView) → IsWhole v → (x o : ℕ)
    → ((subjects : List ℕ) → edges_as (slice_index_or nodes o None) subjects ≡ subjects) → IsPair v x o
    → Among x (reads_in nodes v o)
edge_given nodes v whole x o all pair = subst (Among x) (sym (all (list_at (subject_lists v) o)))
    ((among_listed v whole x o).1 pair)

pub none_given : (nodes : List (Option Node)) (v : EdgesView) (x o : ℕ)
    → ((subjects : List ℕ) → edges_as (slice_index_or nodes o None) subjects ≡ []) → Among x (reads_in nodes v o) → ⊥
none_given nodes v x o none a = subst (Among x) (none (list_at (subject_lists v) o)) a

-- the next pair of a walk has an end too
pub some_as : (P : ℕ → ℕ → Type 0) (found : Option ℕ) (node : ℕ) → IfSome found (λ edge. P edge node)
    → IfSome found (λ edge. (n : ℕ) × P edge n)
some_as P None node of = tt
some_as P (Some edge) node of = (node, of)

-- a list in which nothing is
pub empty_list : (xs : List ℕ) → ((x : ℕ) → Among x xs → ⊥) → xs ≡ []
empty_list [] none = refl
empty_list (x ∷ xs) none = absurd (none x (inl refl))

-- the subject of a pair lives, and the observer
pub subject_within : (v : EdgesView) → IsWhole v → (edge x : ℕ) → HasSubject v edge x → HasSomeObserver v edge → x < length v.nodes
subject_within v whole edge x subject some = live_within v.nodes x (whole.ends x some.0 (edge_beneath v edge some.0 x some.0 some.1
    (record { subject = subject; observer = some.1 }))).0

pub observer_within : (v : EdgesView) → IsWhole v → (edge o : ℕ) → HasObserver v edge o → HasSomeSubject v edge → o < length v.nodes
observer_within v whole edge o observer some = live_within v.nodes o (whole.ends some.0 o (edge_ahead v edge some.0 some.0 o some.1
    (record { subject = some.1; observer = observer }))).1

-- a walk begins at no pair
pub none_beneath : (v : EdgesView) (found : Option ℕ) → found ≡ None → subjects_from v found ≡ []
none_beneath v found is = ap (subjects_from v) is ∙ empty_list (subjects_from v None) (subjects_none v)

pub none_above : (v : EdgesView) (found : Option ℕ) → found ≡ None → observers_from v found ≡ []
none_above v found is = ap (observers_from v) is ∙ empty_list (observers_from v None) (observers_none v)

-- a walk down that is at its end met what lies beneath, and a walk up what lies above
module _ (nodes : List (Option Node)) (v : EdgesView) where
  pub down_ends : (from to : ℕ) (wave : WaveView) (pair : Option ℕ) → Descends nodes v from wave pair → wave.waiting ≡ []
      → pair ≡ None → (is_marked wave.marks to ≡ true) ↔ Leads (reads_in nodes v) from to
  down_ends from to wave pair goes none no_pair =
      let all = subst (Goes (λ x y. Among y (reads_in nodes v x)) (λ x y. Among y (reads_in nodes v x))
      (λ y. Leads (reads_in nodes v) from y) from wave) (none_beneath v pair no_pair) goes in (
        all.sound to,
        down_all (reads_in nodes v) (λ y. is_marked wave.marks y ≡ true)
            (λ x y on a. goes_all (λ x y. Among y (reads_in nodes v x)) (λ x y. Among y (reads_in nodes v x))
            (λ y. Leads (reads_in nodes v) from y) from wave none all x y on a) from to all.first,
      )

  pub up_ends : (from to : ℕ) (wave : WaveView) (pair : Option ℕ) → Ascends nodes v to wave pair → wave.waiting ≡ []
      → pair ≡ None → (is_marked wave.marks from ≡ true) ↔ Leads (reads_in nodes v) from to
  up_ends from to wave pair goes none no_pair =
      let all = subst (Goes (λ x y. IsPair v x y) (λ x y. Among x (reads_in nodes v y))
      (λ y. Leads (reads_in nodes v) y to) to wave) (none_above v pair no_pair) goes in (
        all.sound from,
        up_all (reads_in nodes v) (λ y. is_marked wave.marks y ≡ true)
            (λ x y on a. goes_all (λ x y. IsPair v x y) (λ x y. Among x (reads_in nodes v y))
            (λ y. Leads (reads_in nodes v) y to) to wave none all x y on a) from to all.first,
      )

  -- the walks begin
  pub down_begins : (n from : ℕ) (was : Bool) (old new : WaveView) → Pushes from was old new → from < length old.marks → IsFree n old
      → Descends nodes v from new None
  down_begins n from was old new pushed low free = subst (Goes (λ x y. Among y (reads_in nodes v x)) (λ x y. Among y (reads_in nodes v x))
      (λ y. Leads (reads_in nodes v) from y) from new) (sym (none_beneath v None refl))
      (goes_first from was old new pushed low (λ x y. Among y (reads_in nodes v x)) (λ x y. Among y (reads_in nodes v x))
      (λ y. Leads (reads_in nodes v) from y) from n free (inl refl) refl)

  pub up_begins : (n to : ℕ) (was : Bool) (old new : WaveView) → Pushes to was old new → to < length old.marks → IsFree n old
      → Ascends nodes v to new None
  up_begins n to was old new pushed low free = subst (Goes (λ x y. IsPair v x y) (λ x y. Among x (reads_in nodes v y))
      (λ y. Leads (reads_in nodes v) y to) to new) (sym (none_above v None refl))
      (goes_first to was old new pushed low (λ x y. IsPair v x y) (λ x y. Among x (reads_in nodes v y))
      (λ y. Leads (reads_in nodes v) y to) to n free (inl refl) refl)

-- in a free wave no node is marked
pub none_below : (n m : ℕ) (wave : WaveView) → IsFree n wave → IsMarkedBelow m wave
none_below n m wave free o on = absurd (false≢true (sym (free.none o) ∙ on))
