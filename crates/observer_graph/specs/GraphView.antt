-- The graph of observers as a caller sees it: live nodes with their roles and flags, pairs, marked sources, and the
-- watchers that were told.
use Rattle.std.specs.Prelude.{◌≡◌, ◌≤◌, ◌^◌, ℕ, Bool, true, false, List, [], length, Option, Some, None, IsSome, slice_index_or}
use Rattle.std.specs.List.{sum_by}
use Rattle.walks.specs.Walk.{Among, IsOnce}
use Rattle.observer_graph.specs.declared.node.Role.{Role}
use Rattle.observer_graph.specs.declared.node.Role.TheVariants.{Source, Forwarder, Lazy, Watcher}
use Rattle.observer_graph.specs.declared.node.Flags.{Flags}
use Rattle.observer_graph.specs.declared.node.Node.{Node}
use Rattle.observer_graph.specs.Lists.{is_marked, list_at}

-- A node's number is its place in each list. A removed node is None; its number is not given again. In which order a
-- node's subjects stand means nothing: clauses say who is among them. `noticed` has the watchers that were told and
-- were not handed out since, by creation. `spare` is how many pairs more fit with no memory, by `watch_spare` alone.
pub record GraphView : Type 0 where
  pub nodes : List (Option Node)
  pub subjects : List (List ℕ)
  pub sources : List Bool
  pub noticed : List ℕ
  pub spare : ℕ

abbrev pub node_at : GraphView → ℕ → Option Node
node_at graph o = slice_index_or graph.nodes o None

abbrev pub IsLive : GraphView → ℕ → Type 0
IsLive graph o = IsSome (node_at graph o)

-- the subjects that o observes
abbrev pub subjects_of : GraphView → ℕ → List ℕ
subjects_of graph o = list_at graph.subjects o

-- the node observes the subject
abbrev pub IsPair : GraphView → ℕ → ℕ → Type 0
IsPair graph subject observer = Among subject (subjects_of graph observer)

-- how many pairs there are
abbrev pub pair_count : GraphView → ℕ
pair_count graph = sum_by length graph.subjects

-- the edges of a node: the subjects that it observes. A watcher has none, since what it watches is no part of it: its
-- pairs only say who tells it (this project's profile).
abbrev pub edges_by : Role → List ℕ → List ℕ
edges_by Source subjects = subjects
edges_by Forwarder subjects = subjects
edges_by Lazy subjects = subjects
edges_by Watcher subjects = []

abbrev pub edges_as : Option Node → List ℕ → List ℕ
edges_as None subjects = []
edges_as (Some node) subjects = edges_by node.role subjects

abbrev pub edges_of : GraphView → ℕ → List ℕ
edges_of graph o = edges_as (node_at graph o) (subjects_of graph o)

-- whether a node is a marked source: the next notice starts from it
abbrev pub is_source : GraphView → ℕ → Bool
is_source graph o = is_marked graph.sources o

abbrev pub no_flags : Flags
no_flags = record { current = false; frozen = false; forward = false }

abbrev pub flags_of : Option Node → Flags
flags_of None = no_flags
flags_of (Some node) = node.flags

abbrev pub flags_at : GraphView → ℕ → Flags
flags_at graph o = flags_of (node_at graph o)

-- flags are those of lazy nodes
abbrev pub HasFlags : Role → Flags → Type 0
HasFlags Source flags = flags ≡ no_flags
HasFlags Forwarder flags = flags ≡ no_flags
HasFlags Lazy flags = Unit {0}
HasFlags Watcher flags = flags ≡ no_flags

abbrev pub IsPlain : Option Node → Type 0
IsPlain None = Unit {0}
IsPlain (Some node) = HasFlags node.role node.flags

abbrev pub IsLazy : Option Node → Type 0
IsLazy None = ⊥
IsLazy (Some node) = node.role ≡ Lazy

abbrev pub IsWatcher : Option Node → Type 0
IsWatcher None = ⊥
IsWatcher (Some node) = node.role ≡ Watcher

abbrev pub parts_of : List (Option Node) → List (List ℕ) → List Bool → GraphView
parts_of nodes subjects sources = record { nodes = nodes; subjects = subjects; sources = sources; noticed = []; spare = 0 }

-- What holds of every graph: one list and one mark a number, pairs of live nodes alone and each once, live sources,
-- flags on lazy nodes alone, at most 65,536 numbers.
pub record AreWhole (nodes : List (Option Node)) (subjects : List (List ℕ)) (sources : List Bool) : Type 0 where
  pub lists : length subjects ≡ length nodes
  pub marks : length sources ≡ length nodes
  pub ends : (x o : ℕ) → IsPair (parts_of nodes subjects sources) x o
      → IsLive (parts_of nodes subjects sources) x × IsLive (parts_of nodes subjects sources) o
  pub once : (o : ℕ) → IsOnce (subjects_of (parts_of nodes subjects sources) o)
  pub live : (o : ℕ) → is_source (parts_of nodes subjects sources) o ≡ true → IsLive (parts_of nodes subjects sources) o
  pub flags : (o : ℕ) → IsPlain (node_at (parts_of nodes subjects sources) o)
  pub limit : length nodes ≤ 2 ^ 16

abbrev pub IsWhole : GraphView → Type 0
IsWhole graph = AreWhole graph.nodes graph.subjects graph.sources
