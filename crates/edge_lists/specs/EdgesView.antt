-- Pairs of live nodes as a caller sees them.
use Rattle.std.specs.Prelude.{◌≡◌, ◌⊎◌, ◌↔◌, ◌+◌, ◌++◌, ◌≤◌, ℕ, zero, suc, Option, Some, None, IsSome, is_some, List, [], ◌∷◌, length, count_by, ◌==◌, if◌then◌else◌}
use Rattle.walks.specs.Walk.{IsOnce}
use Rattle.edge_lists.specs.declared.edge.Edge.{Edge}
use Rattle.edge_lists.specs.declared.edge.Heads.{Heads}
use Rattle.edge_lists.specs.declared.edge.Side.TheVariants.{Subject, Observer}
use Rattle.edge_lists.specs.Ends.{node_of, slot_at, heads_at}
use Rattle.edge_lists.specs.Stands.{IsPairIn}
use Rattle.edge_lists.specs.Walks.{others_from}

-- What each slot holds, which nodes live, and how many pairs more fit with no memory. A dropped node is None; its
-- number is not given again. Which slot a pair has, and how the slots are linked, means nothing to a caller: clauses
-- say which pairs are there, and what a walk gives.
pub record EdgesView : Type 0 where
  pub slots : List (Option Edge)
  pub nodes : List (Option Heads)
  pub spare : ℕ

abbrev pub no_pairs : EdgesView
no_pairs = record { slots = []; nodes = []; spare = 0 }

abbrev pub IsLive : EdgesView → ℕ → Type 0
IsLive v x = IsSome (heads_at v.nodes x)

-- the observer o observes the subject x
abbrev pub IsPair : EdgesView → ℕ → ℕ → Type 0
IsPair v x o = IsPairIn v.slots x o

-- a pair has this name
abbrev pub IsThere : EdgesView → ℕ → Type 0
IsThere v edge = IsSome (slot_at v.slots edge)

-- how many pairs there are: each has one slot
abbrev pub pair_count : EdgesView → ℕ
pair_count v = count_by is_some v.slots

abbrev pub no_heads : Heads
no_heads = record { observers = None; subjects = None }

-- one node more
abbrev pub with_node : EdgesView → EdgesView
with_node v = record v { nodes = v.nodes ++ Some no_heads ∷ [] }

-- the same numbers were given, and the same nodes live
pub record SameNodes (old new : EdgesView) : Type 0 where
  pub given : length new.nodes ≡ length old.nodes
  pub live : (x : ℕ) → is_some (heads_at new.nodes x) ≡ is_some (heads_at old.nodes x)

-- one pair more
pub record AddsPair (old new : EdgesView) (subject observer : ℕ) : Type 0 where
  pub nodes : SameNodes old new
  pub pairs : (x o : ℕ) → IsPair new x o ↔ (IsPair old x o ⊎ ((x ≡ subject) × (o ≡ observer)))
  pub count : pair_count new ≡ pair_count old + 1

-- all pairs but this one
pub record TakesPair (old new : EdgesView) (subject observer : ℕ) : Type 0 where
  pub nodes : SameNodes old new
  pub pairs : (x o : ℕ) → IsPair new x o ↔ (IsPair old x o × ((x ≡ subject) × (o ≡ observer) → ⊥))

-- the node is gone, with each pair in which it stands
pub record TakesNode (old new : EdgesView) (node : ℕ) : Type 0 where
  pub given : length new.nodes ≡ length old.nodes
  pub gone : heads_at new.nodes node ≡ None
  pub others : (x : ℕ) → (x ≡ node → ⊥) → is_some (heads_at new.nodes x) ≡ is_some (heads_at old.nodes x)
  pub pairs : (x o : ℕ) → IsPair new x o ↔ (IsPair old x o × ((x ≡ node) ⊎ (o ≡ node) → ⊥))

-- the observers that a walk gives from a pair on, and the subjects
abbrev pub observers_from : EdgesView → Option ℕ → List ℕ
observers_from v found = others_from Subject v.slots found

abbrev pub subjects_from : EdgesView → Option ℕ → List ℕ
subjects_from v found = others_from Observer v.slots found

-- the pair of this name has this subject, or this observer
abbrev pub HasSubject : EdgesView → ℕ → ℕ → Type 0
HasSubject v edge x = node_of Subject (slot_at v.slots edge) ≡ Some x

abbrev pub HasObserver : EdgesView → ℕ → ℕ → Type 0
HasObserver v edge o = node_of Observer (slot_at v.slots edge) ≡ Some o

-- the subjects of o, in the order of their slots
abbrev pub subjects_in : List (Option Edge) → ℕ → List ℕ
subjects_in [] o = []
subjects_in (None ∷ slots) o = subjects_in slots o
subjects_in (Some edge ∷ slots) o = if edge.observer.node == o then edge.subject.node ∷ subjects_in slots o else
    subjects_in slots o

abbrev pub subjects_of : EdgesView → ℕ → List ℕ
subjects_of v o = subjects_in v.slots o

-- what f gives at each number below n
abbrev pub below : {A : Type 0} → (ℕ → A) → ℕ → List A
below f zero = []
below f (suc n) = below f n ++ f n ∷ []

-- the subjects of each number that was given
abbrev pub subject_lists : EdgesView → List (List ℕ)
subject_lists v = below (subjects_of v) (length v.nodes)

-- What holds of all pairs: both nodes of a pair live, each pair is there once, at most 65,536 numbers were given.
pub record IsWhole (v : EdgesView) : Type 0 where
  pub ends : (x o : ℕ) → IsPair v x o → IsLive v x × IsLive v o
  pub once : (o : ℕ) → IsOnce (subjects_of v o)
  pub limit : length v.nodes ≤ 65536
