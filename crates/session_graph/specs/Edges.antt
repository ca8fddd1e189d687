-- What an object observes, as edges (QuantLib's `Observer::registerWith`).
use Rattle.std.specs.Prelude.{ℕ, zero, suc, Bool, true, false, ◌&&◌, if◌then◌else◌, List, [], ◌∷◌, ◌++◌, map}
use Rattle.desk_model.specs.Market.{edges, slot_at, is_watcher, is_observable}
use Rattle.desk_model.specs.State.{State}
use Rattle.desk_model.specs.Told.{is_registered}
use Rattle.graph_dot.specs.declared.node.GraphEdge.{GraphEdge}

abbrev pub edge : Bool → ℕ → ℕ → GraphEdge
edge is_registration observer subject =
    record { observer = observer; subject = subject; is_registration = is_registration }

-- an edge from an object to each of these
abbrev pub observed : ℕ → List ℕ → List GraphEdge
observed o subjects = map (edge false o) subjects

-- whether a watcher is registered with an object
abbrev pub is_watched : State → ℕ → ℕ → Bool
is_watched state w o = is_observable (slot_at state.market o) && is_registered state w o

abbrev pub registration_by : State → ℕ → ℕ → List GraphEdge
registration_by state w o = if is_watched state w o then edge true w o ∷ [] else []

-- the registrations of a watcher with the first objects, as many as are given
unfoldable pub registrations_below : State → ℕ → ℕ → List GraphEdge
registrations_below state w zero = []
registrations_below state w (suc o) = registrations_below state w o ++ registration_by state w o

abbrev pub registrations : State → ℕ → ℕ → List GraphEdge
registrations state numbers w =
    if is_watcher (slot_at state.market w) then registrations_below state w numbers else []

-- the edges of an object among so many: to what it observes, and of a watcher to what it is registered with
abbrev pub edges_by : State → ℕ → ℕ → List GraphEdge
edges_by state numbers o = observed o (edges state.market o) ++ registrations state numbers o
