-- What the calls change.
use Rattle.std.specs.Prelude.{◌≡◌, ◌⊎◌, ◌↔◌, ◌+◌, ◌≤◌, ◌++◌, ℕ, true, false, List, [], ◌∷◌, length, Option, Some, None, slice_set}
use Rattle.walks.specs.Walk.{Among}
use Rattle.observer_graph.specs.declared.node.Role.{Role}
use Rattle.observer_graph.specs.declared.node.Flags.{Flags}
use Rattle.observer_graph.specs.declared.node.Node.{Node}
use Rattle.observer_graph.specs.Noticed.{without}
use Rattle.observer_graph.specs.GraphView.{GraphView, node_at, IsPair, no_flags, pair_count}

-- a new node is last; it observes nothing, is no source, and its flags are off
abbrev pub with_node : Role → GraphView → GraphView
with_node role graph = record {
  nodes = graph.nodes ++ Some (record { role = role; flags = no_flags }) ∷ [];
  subjects = graph.subjects ++ [] ∷ [];
  sources = graph.sources ++ false ∷ [];
  noticed = graph.noticed;
  spare = graph.spare;
}

-- a new node is last; it observes these, each once, is no source, and its flags are off
pub record AddsNode (role : Role) (named : List ℕ) (old new : GraphView) : Type 0 where
  pub nodes : new.nodes ≡ old.nodes ++ Some (record { role = role; flags = no_flags }) ∷ []
  pub sources : new.sources ≡ old.sources ++ false ∷ []
  pub noticed : new.noticed ≡ old.noticed
  pub spare : new.spare ≡ old.spare
  pub pairs : (x o : ℕ) → IsPair new x o ↔ (IsPair old x o ⊎ (Among x named × (o ≡ length old.nodes)))

-- one pair more
pub record AddsPair (old new : GraphView) (subject observer : ℕ) : Type 0 where
  pub nodes : new.nodes ≡ old.nodes
  pub sources : new.sources ≡ old.sources
  pub noticed : new.noticed ≡ old.noticed
  pub pairs : (x o : ℕ) → IsPair new x o ↔ (IsPair old x o ⊎ ((x ≡ subject) × (o ≡ observer)))

-- all pairs but this one
pub record TakesPair (old new : GraphView) (subject observer : ℕ) : Type 0 where
  pub nodes : new.nodes ≡ old.nodes
  pub sources : new.sources ≡ old.sources
  pub noticed : new.noticed ≡ old.noticed
  pub pairs : (x o : ℕ) → IsPair new x o ↔ (IsPair old x o × ((x ≡ subject) × (o ≡ observer) → ⊥))

-- the node is gone, is no source, and all pairs but its own stay; each of those leaves a spare place
pub record TakesNode (old new : GraphView) (node : ℕ) : Type 0 where
  pub nodes : new.nodes ≡ slice_set old.nodes node None
  pub sources : new.sources ≡ slice_set old.sources node false
  pub noticed : new.noticed ≡ without node old.noticed
  pub spare : new.spare + pair_count new ≡ old.spare + pair_count old
  pub room : old.spare ≤ new.spare
  pub pairs : (x o : ℕ) → IsPair new x o ↔ (IsPair old x o × ((x ≡ node) ⊎ (o ≡ node) → ⊥))

abbrev pub flagged : Flags → Option Node → Option Node
flagged flags None = None
flagged flags (Some node) = Some (record node { flags = flags })

-- a node with these flags
abbrev pub with_flags : ℕ → Flags → GraphView → GraphView
with_flags o flags graph = record graph { nodes = slice_set graph.nodes o (flagged flags (node_at graph o)) }

-- the node is a marked source too
abbrev pub with_source : ℕ → GraphView → GraphView
with_source o graph = record graph { sources = slice_set graph.sources o true }

-- the node is no marked source
abbrev pub without_source : ℕ → GraphView → GraphView
without_source o graph = record graph { sources = slice_set graph.sources o false }
