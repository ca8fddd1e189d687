-- Walks down from a node and up from a node, a pair at a time.
use Rattle.std.specs.Prelude.{◌≡◌, ◌⊎◌, ◌==◌, ◌||◌, ◌<◌, ◌≤◌, ◌+◌, ◌*◌, not, ℕ, Bool, true, false, List, [], length, Option, None, slice_index_or}
use Rattle.walks.specs.Walk.{Among}
use Rattle.wave_queue.specs.Thread.{WaveView, is_marked, open_count}
use Rattle.edge_lists.specs.EdgesView.{EdgesView, IsPair, HasSubject, HasObserver, subject_lists, subjects_from, observers_from}
use Rattle.observer_graph.specs.declared.node.Node.{Node}
use Rattle.observer_graph.specs.Late.{frozen_of}
use Rattle.observer_graph.specs.Walks.{Leads, edges_in}

-- no node is marked and none waits, and there is room for the nodes below n
pub record IsFree (n : ℕ) (wave : WaveView) : Type 0 where
  pub room : n ≤ length wave.marks
  pub none : (o : ℕ) → is_marked wave.marks o ≡ false
  pub waiting : wave.waiting ≡ []

-- nodes below n alone are marked
abbrev pub IsMarkedBelow : ℕ → WaveView → Type 0
IsMarkedBelow n wave = (o : ℕ) → is_marked wave.marks o ≡ true → o < n

-- the pair of this name has an observer, or a subject
abbrev pub HasSomeObserver : EdgesView → ℕ → Type 0
HasSomeObserver edges edge = (o : ℕ) × HasObserver edges edge o

abbrev pub HasSomeSubject : EdgesView → ℕ → Type 0
HasSomeSubject edges edge = (x : ℕ) × HasSubject edges edge x

-- A walk on its way from a node: the marked nodes were met, where `next x y` says that a step leads from x to y. The
-- steps of those that neither wait nor are looked at were taken; `ahead` are the ends of pairs still to be looked at.
pub record Goes (pair next : ℕ → ℕ → Type 0) (IsMet : ℕ → Type 0) (start : ℕ) (wave : WaveView) (ahead : List ℕ) : Type 0 where
  pub first : is_marked wave.marks start ≡ true
  pub sound : (y : ℕ) → is_marked wave.marks y ≡ true → IsMet y
  pub paired : (y : ℕ) → Among y ahead → (x : ℕ) × (is_marked wave.marks x ≡ true) × pair x y
  pub closed : (x y : ℕ) → is_marked wave.marks x ≡ true → next x y
      → (is_marked wave.marks y ≡ true) ⊎ (Among x wave.waiting ⊎ Among y ahead)

-- the edges of each node, by its pairs
abbrev pub reads_in : List (Option Node) → EdgesView → ℕ → List ℕ
reads_in nodes edges = edges_in nodes (subject_lists edges)

-- down from a node, along its edges
abbrev pub Descends : List (Option Node) → EdgesView → ℕ → WaveView → Option ℕ → Type 0
Descends nodes edges from wave found = Goes (λ x y. Among y (reads_in nodes edges x)) (λ x y. Among y (reads_in nodes edges x))
    (λ y. Leads (reads_in nodes edges) from y) from wave (subjects_from edges found)

-- up from a node, to those that have an edge to it
abbrev pub Ascends : List (Option Node) → EdgesView → ℕ → WaveView → Option ℕ → Type 0
Ascends nodes edges to wave found = Goes (λ x y. IsPair edges x y) (λ x y. Among x (reads_in nodes edges y))
    (λ y. Leads (reads_in nodes edges) y to) to wave (observers_from edges found)

-- more steps than are left of a walk up
abbrev pub left_up : EdgesView → WaveView → Option ℕ → ℕ
left_up edges wave found = (open_count wave.marks + length wave.waiting) * (length edges.slots + 1)
    + length (observers_from edges found)

-- a walk to what is exposed goes on beneath a node: it begins there, or the node is not frozen
abbrev pub goes_beneath : List (Option Node) → ℕ → ℕ → Bool
goes_beneath nodes from o = (o == from) || not (frozen_of (slice_index_or nodes o None))
