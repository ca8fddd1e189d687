-- Lists of nodes, by membership.
use Rattle.std.specs.Prelude.{◌≡◌, ◌↔◌, ◌⊎◌, ◌+◌, ◌++◌, ℕ, Bool, true, false, if◌then◌else◌, List, [], ◌∷◌, length, slice_index_or}
use Rattle.walks.specs.Walk.{Among, IsOnce}

-- whether a node is marked
abbrev pub is_marked : List Bool → ℕ → Bool
is_marked marks o = slice_index_or marks o false

-- the list of a node
abbrev pub list_at : List (List ℕ) → ℕ → List ℕ
list_at lists o = slice_index_or lists o []

-- how many are not marked
abbrev pub open_count : List Bool → ℕ
open_count [] = 0
open_count (mark ∷ marks) = (if mark then 0 else 1) + open_count marks

-- nodes in the order in which they were put into a set, a mark for each node: whether it is there, and for how many
-- nodes more there is room
pub record SetView : Type 0 where
  pub marks : List Bool
  pub items : List ℕ
  pub spare : ℕ

-- the marked nodes are those of the list, each once, and what is not marked has room
pub record IsSet (marks : List Bool) (items : List ℕ) : Type 0 where
  pub listed : (o : ℕ) → is_marked marks o ≡ true → Among o items
  pub marked : (o : ℕ) → Among o items → is_marked marks o ≡ true
  pub once : IsOnce items
  pub room : length items + open_count marks ≡ length marks

-- a set with more nodes at its end
pub record Extends (old new : SetView) (more : ℕ → Type 0) : Type 0 where
  pub room : length new.marks ≡ length old.marks
  pub spare : new.spare ≡ old.spare
  pub end : (tail : List ℕ) × (new.items ≡ old.items ++ tail)
  pub items : (o : ℕ) → Among o new.items ↔ (Among o old.items ⊎ more o)
