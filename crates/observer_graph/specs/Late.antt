-- What holds a notice back beneath a node: late and clear.
use Rattle.std.specs.Prelude.{◌≡◌, ◌⊎◌, ◌==◌, ◌||◌, ◌+◌, not, ℕ, Bool, true, false, List, [], ◌∷◌, Option, None, Some, if◌then◌else◌}
use Rattle.walks.specs.Walk.{Below}
use Rattle.observer_graph.specs.declared.node.Node.{Node}
use Rattle.observer_graph.specs.GraphView.{GraphView, node_at, flags_of, edges_of, is_source}
use Rattle.observer_graph.specs.Notice.{IsLeast, Reaches}
use Rattle.observer_graph.specs.declared.node.Standing.{Standing}
use Rattle.observer_graph.specs.declared.node.Standing.TheVariants.{Frozen, Late, Held, Clear}

abbrev pub frozen_of : Option Node → Bool
frozen_of node = (flags_of node).frozen

abbrev pub is_frozen : GraphView → ℕ → Bool
is_frozen graph o = frozen_of (node_at graph o)

-- x is o, or lies beneath it on a path of edges of nodes that are no watchers, whose inner nodes are not frozen
abbrev pub IsExposed : GraphView → ℕ → ℕ → Type 0
IsExposed graph o x = (o ≡ x) ⊎ Below (edges_of graph) (λ y. y == x) (λ y. not (is_frozen graph y)) o

-- LATE: the notice that the marked source x holds back makes o late
abbrev pub IsLateOf : GraphView → ℕ → ℕ → Type 0
IsLateOf graph o x = (is_source graph x ≡ true) × IsExposed graph o x

abbrev pub is_held_back : GraphView → ℕ → Bool
is_held_back graph o = is_frozen graph o || is_source graph o

-- CLEAR: neither o nor any node beneath it is frozen or a marked source
abbrev pub IsClear : GraphView → ℕ → Type 0
IsClear graph o = (x : ℕ) → Reaches graph o x → is_held_back graph x ≡ false

-- HOW A NODE STANDS to who asks for it: it is frozen, else late, else held where some node that it is or has beneath it is
-- frozen or a marked source, else clear
abbrev pub StandsAs : GraphView → ℕ → Standing → Type 0
StandsAs graph o Frozen = is_frozen graph o ≡ true
StandsAs graph o Late = (is_frozen graph o ≡ false) × ((x : ℕ) × IsLeast (IsLateOf graph o) (Some x))
StandsAs graph o Held = (is_frozen graph o ≡ false) × (IsLeast (IsLateOf graph o) None × (IsClear graph o → ⊥))
StandsAs graph o Clear = (is_frozen graph o ≡ false) × (IsLeast (IsLateOf graph o) None × IsClear graph o)

-- how many nodes are frozen
abbrev pub frozen_count : List (Option Node) → ℕ
frozen_count [] = 0
frozen_count (node ∷ nodes) = (if frozen_of node then 1 else 0) + frozen_count nodes
