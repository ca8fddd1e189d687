-- A notice on its way.
use Rattle.std.specs.Prelude.{◌≡◌, ◌⊎◌, ◌↔◌, IfSome, ℕ, Bool, true, List, Option, None, slice_index_or}
use Rattle.walks.specs.Walk.{Among}
use Rattle.edge_lists.specs.EdgesView.{EdgesView, HasSubject, IsPair, observers_from, subject_lists}
use Rattle.wave_queue.specs.Thread.{WaveView, is_marked}
use Rattle.observer_graph.specs.declared.node.Node.{Node}
use Rattle.observer_graph.specs.GraphView.{IsWatcher}
use Rattle.observer_graph.specs.Notice.{IsTold, passes_of, unsettled}
use Rattle.observer_graph.specs.Walks.{graph_of}

-- Found is the first pair by which a node is observed, if there is one: the walk from it gives whoever observes the node.
pub record IsFirstPair (edges : EdgesView) (node : ℕ) (found : Option ℕ) : Type 0 where
  pub given : (o : ℕ) → Among o (observers_from edges found) ↔ IsPair edges node o
  pub of : IfSome found (λ edge. HasSubject edges edge node)

-- A node was looked at: it is not current, it is remembered if it is a watcher, and it is marked if it passes the notice on
-- to someone.
pub record IsDone (edges : EdgesView) (first nodes : List (Option Node)) (wave : WaveView) (noticed : List ℕ) (o : ℕ) : Type 0 where
  pub settled : slice_index_or nodes o None ≡ unsettled (slice_index_or first o None)
  pub noted : IsWatcher (slice_index_or first o None) → Among o noticed
  pub passes : passes_of (slice_index_or first o None) ≡ true
      → (is_marked wave.marks o ≡ true) ⊎ ((p : ℕ) → IsPair edges o p → ⊥)

-- Each node is as it was at first, or is told and was looked at; the watchers remembered since are told. Marked nodes are
-- told and pass the notice on, and their observers were looked at, but for those of nodes that wait and those ahead.
pub record Spreads (edges : EdgesView) (sources : List Bool) (first : List (Option Node)) (noted : List ℕ)
    (IsAhead : ℕ → ℕ → Type 0) (nodes : List (Option Node)) (wave : WaveView) (noticed : List ℕ) : Type 0 where
  pub each : (o : ℕ) → (slice_index_or nodes o None ≡ slice_index_or first o None)
      ⊎ (IsTold (graph_of first (subject_lists edges) sources) o × IsDone edges first nodes wave noticed o)
  pub told : (o : ℕ) → is_marked wave.marks o ≡ true → IsTold (graph_of first (subject_lists edges) sources) o
      × (passes_of (slice_index_or first o None) ≡ true)
  pub kept : (w : ℕ) → Among w noted → Among w noticed
  pub from : (w : ℕ) → Among w noticed → Among w noted
      ⊎ (IsWatcher (slice_index_or first w None) × IsTold (graph_of first (subject_lists edges) sources) w)
  pub closed : (x o : ℕ) → is_marked wave.marks x ≡ true → IsPair edges x o
      → IsDone edges first nodes wave noticed o ⊎ (Among x wave.waiting ⊎ IsAhead x o)
