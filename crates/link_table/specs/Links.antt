-- The targets of holders as a finite map, and the pairs that they stand for.
use Rattle.std.specs.Prelude.{◌≡◌, ◌↔◌, ◌⊎◌, ◌==◌, ◌+◌, ◌≤◌, if◌then◌else◌, ℕ, Bool, false, List, [], ◌∷◌, Option, Some, None, IsSome, is_none, slice_index_or, slice_set}
use Rattle.link_table.specs.declared.links.Link.{Link}
use Rattle.observer_graph.specs.GraphView.{GraphView, IsLive, IsPair}

-- what is kept of a number: nothing where it is no holder
abbrev pub link_at : List (Option Link) → ℕ → Option Link
link_at links holder = slice_index_or links holder None

abbrev pub IsHolder : List (Option Link) → ℕ → Type 0
IsHolder links holder = IsSome (link_at links holder)

abbrev pub target_of : Option Link → Option ℕ
target_of None = None
target_of (Some link) = link.target

-- the target of a holder, if it is linked
abbrev pub target_at : List (Option Link) → ℕ → Option ℕ
target_at links holder = target_of (link_at links holder)

-- one number changes, and every other keeps what it has
abbrev pub ChangesAt : List (Option Link) → List (Option Link) → ℕ → Option Link → Type 0
ChangesAt old new holder link = (h : ℕ) → link_at new h ≡ (if h == holder then link else link_at old h)

-- a linked holder and its target live and are a pair
abbrev pub Observes : GraphView → ℕ → ℕ → Type 0
Observes graph holder target = IsLive graph holder × IsLive graph target × IsPair graph target holder

-- whether a number is a holder that is not linked
abbrev pub is_free : Option Link → Bool
is_free None = false
is_free (Some link) = is_none link.target

-- how many holders are not linked
abbrev pub free_count : List (Option Link) → ℕ
free_count [] = 0
free_count (link ∷ links) = (if is_free link then 1 else 0) + free_count links

-- links fit a graph where each linked holder observes its target, and there is a spare place for each other holder
pub record Fits (links : List (Option Link)) (graph : GraphView) : Type 0 where
  pub linked : (holder target : ℕ) → target_at links holder ≡ Some target → Observes graph holder target
  pub spare : free_count links ≤ graph.spare

-- the same of all holders but one
pub record FitsBut (but : ℕ) (links : List (Option Link)) (graph : GraphView) : Type 0 where
  pub linked : (holder target : ℕ) → (holder ≡ but → ⊥) → target_at links holder ≡ Some target
      → Observes graph holder target
  pub spare : free_count (slice_set links but None) ≤ graph.spare

-- the holder observes the new target and not the old one; every other pair, every node, every source and every told
-- watcher stays
pub record Relinks (old new : GraphView) (holder : ℕ) (was now : Option ℕ) : Type 0 where
  pub nodes : new.nodes ≡ old.nodes
  pub sources : new.sources ≡ old.sources
  pub noticed : new.noticed ≡ old.noticed
  pub pairs : (x o : ℕ) → IsPair new x o ↔ ((IsPair old x o × ((o ≡ holder) × (was ≡ Some x) → ⊥))
      ⊎ ((o ≡ holder) × (now ≡ Some x)))

-- the holder observes this target too, if there is one
pub record Joins (old new : GraphView) (holder : ℕ) (now : Option ℕ) : Type 0 where
  pub nodes : new.nodes ≡ old.nodes
  pub sources : new.sources ≡ old.sources
  pub noticed : new.noticed ≡ old.noticed
  pub pairs : (x o : ℕ) → IsPair new x o ↔ (IsPair old x o ⊎ ((o ≡ holder) × (now ≡ Some x)))

-- the holder does not observe this target, if there is one
pub record Leaves (old new : GraphView) (holder : ℕ) (was : Option ℕ) : Type 0 where
  pub nodes : new.nodes ≡ old.nodes
  pub sources : new.sources ≡ old.sources
  pub noticed : new.noticed ≡ old.noticed
  pub pairs : (x o : ℕ) → IsPair new x o ↔ (IsPair old x o × ((o ≡ holder) × (was ≡ Some x) → ⊥))
