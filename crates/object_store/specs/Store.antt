-- What the calls of a store change.
use Rattle.std.specs.Prelude.{◌≡◌, ◌≢◌, ◌↔◌, ◌⊎◌, ◌≤◌, ◌+◌, ◌++◌, ℕ, Bool, true, false, List, [], ◌∷◌, length, Option, Some, None, slice_index_or, slice_set}
use Rattle.walks.specs.Walk.{Among, Below}
use Rattle.desk_terms.specs.declared.terms.Part.{Part}
use Rattle.desk_terms.specs.Terms.{part_references}
use Rattle.desk_model.specs.Market.{named}
use Rattle.desk_model.specs.declared.kept.Kept.{Kept}
use Rattle.desk_model.specs.State.{unpriced}
use Rattle.desk_model.specs.Told.{unsettled}
use Rattle.observer_graph.specs.declared.node.Role.{Role}
use Rattle.observer_graph.specs.declared.node.Role.TheVariants.{Watcher}
use Rattle.observer_graph.specs.Notice.{passes_as}
use Rattle.observer_graph.specs.Noticed.{IsRising, without}
use Rattle.object_store.specs.Shape.{Shape, role_at, observed_by, registrations_of}
use Rattle.object_store.specs.Slots.{Registry}

-- what is stored of each object, the graph of observers, whether notices are held back, and the watchers that were told
-- and not handed out since, by creation
pub record StoreView : Type 0 where
  pub kept : List Kept
  pub shape : Shape
  pub deferring : Bool
  pub noticed : List ℕ

-- the registrations stand in the graph alone
abbrev pub registry_of : StoreView → Registry
registry_of store = record { deferring = store.deferring; registrations = registrations_of store.shape; noticed = store.noticed }

abbrev pub stored_at : StoreView → ℕ → Kept
stored_at store o = slice_index_or store.kept o unpriced

-- what is stored of one object, changed
abbrev pub stored_as : ℕ → Kept → StoreView → StoreView
stored_as o kept store = record store { kept = slice_set store.kept o kept }

-- the next notice starts from an object too
abbrev pub marked : ℕ → StoreView → StoreView
marked o store = stored_as o (record (stored_at store o) { source = true }) store

-- where notices are not held back, no object is marked
abbrev pub HasNoMarkWhereOff : StoreView → Type 0
HasNoMarkWhereOff store = store.deferring ≡ false → (o : ℕ) → (stored_at store o).source ≡ false

-- one object more, which observes these
pub record AddsObject (role : Role) (named : List ℕ) (old new : StoreView) : Type 0 where
  pub kept : new.kept ≡ old.kept ++ unpriced ∷ []
  pub switch : new.deferring ≡ old.deferring
  pub told : new.noticed ≡ old.noticed
  pub spare : new.shape.spare ≡ old.shape.spare
  pub roles : new.shape.roles ≡ old.shape.roles ++ Some role ∷ []
  pub pairs : (x o : ℕ) → Among x (observed_by new.shape o) ↔ (Among x (observed_by old.shape o) ⊎ (Among x named × (o ≡ length old.kept)))

-- one object less
pub record TakesObject (object : ℕ) (old new : StoreView) : Type 0 where
  pub kept : new.kept ≡ slice_set old.kept object unpriced
  pub switch : new.deferring ≡ old.deferring
  pub told : new.noticed ≡ without object old.noticed
  pub spare : old.shape.spare ≤ new.shape.spare
  pub roles : new.shape.roles ≡ slice_set old.shape.roles object None
  pub pairs : (x o : ℕ) → Among x (observed_by new.shape o) ↔ (Among x (observed_by old.shape o) × ((x ≡ object) ⊎ (o ≡ object) → ⊥))

-- one pair more
pub record Joins (old new : StoreView) (subject observer : ℕ) : Type 0 where
  pub kept : new.kept ≡ old.kept
  pub switch : new.deferring ≡ old.deferring
  pub told : new.noticed ≡ old.noticed
  pub roles : new.shape.roles ≡ old.shape.roles
  pub pairs : (x o : ℕ) → Among x (observed_by new.shape o) ↔ (Among x (observed_by old.shape o) ⊎ ((x ≡ subject) × (o ≡ observer)))

-- one pair less
pub record Leaves (old new : StoreView) (subject observer : ℕ) : Type 0 where
  pub kept : new.kept ≡ old.kept
  pub switch : new.deferring ≡ old.deferring
  pub told : new.noticed ≡ old.noticed
  pub roles : new.shape.roles ≡ old.shape.roles
  pub pairs : (x o : ℕ) → Among x (observed_by new.shape o) ↔ (Among x (observed_by old.shape o) × ((x ≡ subject) × (o ≡ observer) → ⊥))

-- whether an object with this role passes a notice on
abbrev pub passes_by : Option Role → Kept → Bool
passes_by None kept = false
passes_by (Some role) kept = passes_as role (record { current = kept.current; frozen = kept.frozen; forward = kept.forward })

-- a notice from the marked objects reaches o
abbrev pub IsNotified : StoreView → ℕ → Type 0
IsNotified store o = Below (observed_by store.shape) (λ y. (stored_at store y).source) (λ y. passes_by (role_at store.shape y) (stored_at store y)) o

-- what is stored of an object after a notice, by whether it was reached: no object is marked any more
abbrev pub notified_kept : Bool → Kept → Kept
notified_kept is_told kept = record (unsettled is_told kept) { source = false }

-- A NOTICE from the marked objects: the watchers that it reaches are told too, and stand by creation
pub record Notices (old new : StoreView) : Type 0 where
  pub shape : new.shape ≡ old.shape
  pub long : length new.kept ≡ length old.kept
  pub each : (o : ℕ) → (IsNotified old o × (stored_at new o ≡ notified_kept true (stored_at old o)))
      ⊎ ((IsNotified old o → ⊥) × (stored_at new o ≡ notified_kept false (stored_at old o)))
  pub noticed : (w : ℕ) → Among w new.noticed ↔ (Among w old.noticed ⊎ ((role_at old.shape w ≡ Some Watcher) × IsNotified old w))
  pub rising : IsRising new.noticed

-- a composite of these parts observes its members, and all else is as it was
pub record IsRewatched (composite : ℕ) (parts : List Part) (old new : StoreView) : Type 0 where
  pub kept : new.kept ≡ old.kept
  pub switch : new.deferring ≡ old.deferring
  pub told : new.noticed ≡ old.noticed
  pub roles : new.shape.roles ≡ old.shape.roles
  pub spare : old.shape.spare ≤ new.shape.spare
  pub own : (x : ℕ) → Among x (observed_by new.shape composite) ↔ Among x (named (part_references parts))
  pub others : (o x : ℕ) → o ≢ composite → Among x (observed_by new.shape o) ↔ Among x (observed_by old.shape o)

-- one pair more, where there is a subject
abbrev pub JoinsAny : Option ℕ → ℕ → StoreView → StoreView → Type 0
JoinsAny None observer old new = new ≡ old
JoinsAny (Some subject) observer old new = Joins old new subject observer

-- one pair less, where there is a subject
abbrev pub LeavesAny : Option ℕ → ℕ → StoreView → StoreView → Type 0
LeavesAny None observer old new = new ≡ old
LeavesAny (Some subject) observer old new = Leaves old new subject observer

-- how many objects a holder holds
abbrev pub held_count : Option ℕ → ℕ
held_count None = 0
held_count (Some object) = 1

-- an object observes this one, if there is one, in place of that one, whose place in the graph it takes
pub record Moves (held target : Option ℕ) (observer : ℕ) (old new : StoreView) : Type 0 where
  pub kept : new.kept ≡ old.kept
  pub switch : new.deferring ≡ old.deferring
  pub told : new.noticed ≡ old.noticed
  pub roles : new.shape.roles ≡ old.shape.roles
  pub spare : new.shape.spare + held_count target ≡ old.shape.spare + held_count held
  pub own : (x : ℕ) → Among x (observed_by new.shape observer) ↔ ((Among x (observed_by old.shape observer) × (held ≢ Some x)) ⊎ (target ≡ Some x))
  pub others : (o x : ℕ) → o ≢ observer → Among x (observed_by new.shape o) ↔ Among x (observed_by old.shape o)
