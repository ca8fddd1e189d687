-- Graphs of which no node was removed.
use Rattle.std.specs.Prelude.{ℕ, ◌<◌, length}
use Rattle.observer_graph.specs.GraphView.{GraphView, IsLive, IsWhole}

-- each node given lives
abbrev pub AreLive : GraphView → Type 0
AreLive graph = (o : ℕ) → o < length graph.nodes → IsLive graph o

pub record IsNet (graph : GraphView) : Type 0 where
  pub whole : IsWhole graph
  pub live : AreLive graph
