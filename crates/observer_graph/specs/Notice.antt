-- Whom a notice reaches, and what lies beneath a node.
use Rattle.std.specs.Prelude.{◌≡◌, ◌↔◌, ◌⊎◌, ◌==◌, ◌&&◌, ◌||◌, ◌≤◌, not, ℕ, Bool, true, false, length, Option, Some, None, slice_set, ltb, if◌then◌else◌}
use Rattle.walks.specs.Walk.{Among, Below}
use Rattle.observer_graph.specs.Noticed.{IsRising}
use Rattle.observer_graph.specs.declared.node.Role.{Role}
use Rattle.observer_graph.specs.declared.node.Role.TheVariants.{Source, Forwarder, Lazy, Watcher}
use Rattle.observer_graph.specs.declared.node.Flags.{Flags}
use Rattle.observer_graph.specs.declared.node.Node.{Node}
use Rattle.observer_graph.specs.GraphView.{GraphView, IsWatcher, node_at, edges_of, subjects_of, is_source}

-- whether a node that a notice reaches passes it on: a forwarder does, and a lazy node that is not frozen and is
-- current or always forwards (QuantLib's `LazyObject::update`). A watcher passes nothing on.
abbrev pub passes_as : Role → Flags → Bool
passes_as Source flags = false
passes_as Forwarder flags = true
passes_as Lazy flags = not flags.frozen && (flags.current || flags.forward)
passes_as Watcher flags = false

abbrev pub passes_of : Option Node → Bool
passes_of None = false
passes_of (Some node) = passes_as node.role node.flags

abbrev pub passes_at : GraphView → ℕ → Bool
passes_at graph x = passes_of (node_at graph x)

-- a notice from the marked sources reaches o: the least set that holds the observers of each marked source, and
-- those of each node in the set that passes the notice on
abbrev pub IsTold : GraphView → ℕ → Type 0
IsTold graph o = Below (subjects_of graph) (is_source graph) (passes_at graph) o

-- a node is another, or the other lies beneath it by the edges of nodes that are no watchers
abbrev pub Reaches : GraphView → ℕ → ℕ → Type 0
Reaches graph from to = (from ≡ to) ⊎ Below (edges_of graph) (λ y. y == to) (λ y. true) from

-- a node that was told is not current
abbrev pub unsettled : Option Node → Option Node
unsettled None = None
unsettled (Some node) = Some (record node { flags = record node.flags { current = false } })

-- a node is not current, whatever it is; nobody is told
abbrev pub with_stale : ℕ → GraphView → GraphView
with_stale o graph = record graph { nodes = slice_set graph.nodes o (unsettled (node_at graph o)) }

-- what a notice from the marked sources does: who is told is not current, nothing else of a node changes, pairs stay,
-- and no source stays marked
pub record Settles (old new : GraphView) : Type 0 where
  pub subjects : new.subjects ≡ old.subjects
  pub len : length new.nodes ≡ length old.nodes
  pub node : (o : ℕ) → (IsTold old o × (node_at new o ≡ unsettled (node_at old o)))
      ⊎ ((IsTold old o → ⊥) × (node_at new o ≡ node_at old o))
  pub sources : (o : ℕ) → is_source new o ≡ false
  pub marks : length new.sources ≡ length old.sources

-- THE NOTICE: who is told is not current, and each watcher that is told is remembered, by creation
pub record Tells (old new : GraphView) : Type 0 where
  pub settles : Settles old new
  pub noticed : (w : ℕ) → Among w new.noticed ↔ (Among w old.noticed ⊎ (IsWatcher (node_at old w) × IsTold old w))
  pub rising : IsRising new.noticed
  pub spare : new.spare ≡ old.spare

-- a node uses a subject: it observes it, and is no watcher
abbrev pub IsUser : GraphView → ℕ → ℕ → Type 0
IsUser graph subject o = Among subject (edges_of graph o)

-- the least of those of which P holds, if it holds of any
abbrev pub IsLeast : (ℕ → Type 0) → Option ℕ → Type 0
IsLeast P None = (o : ℕ) → P o → ⊥
IsLeast P (Some x) = P x × ((o : ℕ) → P o → x ≤ o)

-- the lesser of two nodes, if there are two
abbrev pub lesser : Option ℕ → ℕ → ℕ
lesser None node = node
lesser (Some found) node = if ltb node found then node else found
