use Rattle.std.proofs.Common.{◌≡◌, ◌∙◌, ap, sym, subst, List, Option, ℕ, None}
use Rattle.std.specs.Prelude.{slice_index_or}
use Rattle.observer_graph.specs.declared.node.Node.{Node}
use Rattle.observer_graph.specs.declared.node.Role.TheVariants.{Lazy}
use Rattle.observer_graph.specs.GraphView.{GraphView, IsLazy}
use Rattle.observer_graph.specs.Change.{with_node}
use Rattle.graph_vectors.specs.Nets.{IsNet}
use Rattle.graph_vectors.proofs.NetLaws.{lazy_added, live_added, live_nodes, net_flagged}
use Rattle.graph_vectors.proofs.nets.lazy_over.Goals as goal

pub returns-clause-net : goal.returns-clause-net
returns-clause-net c =
    let same : c.watch_these.new.graph.nodes ≡ (with_node Lazy c.args.graph.now).nodes =
    c.in_ok-watch_these.ensures.nodes ∙ ap (λ (g : GraphView). g.nodes) c.in_ok-node.ensures.ok in
    let lazy = subst (λ (n : List (Option Node)). IsLazy (slice_index_or n c.in_ok-node.node None)) (sym same)
    (subst (λ (o : ℕ). IsLazy (slice_index_or (with_node Lazy c.args.graph.now).nodes o None))
    (sym c.in_ok-node.ensures.number) (lazy_added c.args.graph.now)) in
    subst IsNet (sym c.set_flags.ensures) (net_flagged c.watch_these.new.graph c.in_ok-node.node _ lazy (record {
      whole = c.in_ok-watch_these.ensures.whole;
      live = live_nodes (with_node Lazy c.args.graph.now) c.watch_these.new.graph same
          (live_added c.args.graph.now Lazy c.requires.net.live);
    }))
