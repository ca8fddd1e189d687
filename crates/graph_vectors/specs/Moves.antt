-- A holder that is moved between two sources.
use Rattle.std.specs.Prelude.{◌≡◌, ◌<◌, ℕ, List, Option, Some}
use Rattle.observer_graph.specs.GraphView.{GraphView, IsLive, IsPair}
use Rattle.link_table.specs.declared.links.Link.{Link}
use Rattle.link_table.specs.Links.{Fits, IsHolder, target_at}

-- the links fit, the holder and the two sources live, and the holder observes its target alone
pub record IsMovable (links : List (Option Link)) (graph : GraphView) (holder : ℕ) : Type 0 where
  pub fits : Fits links graph
  pub known : IsHolder links holder
  pub live : IsLive graph holder
  pub sources : (t : ℕ) → t < 2 → IsLive graph t
  pub only : (t : ℕ) → IsPair graph t holder → target_at links holder ≡ Some t
