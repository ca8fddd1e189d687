-- What holds a notice back beneath an object, over what is stored and who observes whom.
use Rattle.std.specs.Prelude.{◌≡◌, ◌⊎◌, ◌==◌, ◌||◌, not, ℕ, Bool, true, false, None, Some}
use Rattle.walks.specs.Walk.{Below}
use Rattle.desk_terms.specs.declared.asked.Mark.{Mark}
use Rattle.desk_terms.specs.declared.asked.Mark.TheVariants.{Fresh, Frozen, Late, Held, Recalc}
use Rattle.observer_graph.specs.Notice.{IsLeast}
use Rattle.object_store.specs.Shape.{edges_at}
use Rattle.object_store.specs.Store.{StoreView, stored_at}

-- LATE: x holds its notice back, and is o or lies beneath it on a path whose inner objects are not frozen
abbrev pub IsLateOf : StoreView → ℕ → ℕ → Type 0
IsLateOf store o x = ((stored_at store x).source ≡ true)
    × ((o ≡ x) ⊎ Below (edges_at store.shape) (λ y. y == x) (λ y. not (stored_at store y).frozen) o)

abbrev pub holds_back : StoreView → ℕ → Bool
holds_back store x = (stored_at store x).frozen || (stored_at store x).source

-- CLEAR: neither o nor any object beneath it is frozen or holds its notice back
abbrev pub IsClear : StoreView → ℕ → Type 0
IsClear store o = (x : ℕ) → ((o ≡ x) ⊎ Below (edges_at store.shape) (λ y. y == x) (λ y. true) o)
    → holds_back store x ≡ false

-- THE MARK of an object's answer: frozen, else late, else fresh where the object is clear, else held
abbrev pub IsMarkOf : StoreView → ℕ → Mark → Type 0
IsMarkOf store o Frozen = (stored_at store o).frozen ≡ true
IsMarkOf store o Late = ((stored_at store o).frozen ≡ false) × ((x : ℕ) × IsLeast (IsLateOf store o) (Some x))
IsMarkOf store o Held = ((stored_at store o).frozen ≡ false) × (IsLeast (IsLateOf store o) None × (IsClear store o → ⊥))
IsMarkOf store o Fresh = ((stored_at store o).frozen ≡ false) × (IsLeast (IsLateOf store o) None × IsClear store o)
IsMarkOf store o Recalc = ⊥
