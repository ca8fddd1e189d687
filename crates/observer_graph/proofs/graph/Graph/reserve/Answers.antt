use Rattle.std.proofs.Common.{ap, length}
use Rattle.edge_lists.specs.EdgesView.{EdgesView}
use Rattle.observer_graph.proofs.Turns.{free_as}
use Rattle.observer_graph.proofs.Wholes.{either, same_nodes, stands_pairs}
use Rattle.observer_graph.proofs.graph.Graph.reserve.Goals as goal

pub invariant_of-self : goal.invariant_of-self
invariant_of-self c =
    let nodes = either c.reserve-found.result c.reserve-found.ensures.ok c.reserve-found.ensures.err
    (λ more. ap (λ (v : EdgesView). v.nodes) more) (λ is. ap (λ (v : EdgesView). v.nodes) is) in
    let same = ap length nodes in (
      stands_pairs c.self.inside.nodes.items c.self.inside.edges c.self.inside.sources c.self.inside.wave c.self.invariant.0
          c.reserve-found.new.self c.whole.ensures (same_nodes c.self.inside.edges c.reserve-found.new.self nodes),
      c.self.invariant.1,
      c.self.invariant.2,
      c.self.invariant.3,
      free_as (length c.self.inside.edges.nodes) (length c.reserve-found.new.self.nodes) c.self.inside.down same c.self.invariant.4,
      free_as (length c.self.inside.edges.nodes) (length c.reserve-found.new.self.nodes) c.self.inside.up same c.self.invariant.5,
    )
