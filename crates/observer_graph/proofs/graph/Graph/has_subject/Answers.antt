use Rattle.std.proofs.Common.{arith, subst, sym}
use Rattle.edge_lists.proofs.Listing.{observes}
use Rattle.observer_graph.specs.GraphView.{GraphView, IsLive}
use Rattle.observer_graph.proofs.SubjectLists.{among_listed}
use Rattle.observer_graph.proofs.Wholes.{live_within}
use Rattle.observer_graph.proofs.graph.Graph.has_subject.Goals as goal

pub first_subject-requires : goal.first_subject-requires
first_subject-requires c = let given = c.self.invariant.0.given in
    let low = live_within c.self.inside.nodes.items c.args.node (subst (λ (v : GraphView). IsLive v c.args.node) (sym c.self.view_is) c.requires) in omega arith

pub returns : goal.returns
returns c =
    let there = observes c.self.inside.edges c.args.node c.first_subject.result c.first_subject.ensures in
    let listed = among_listed c.self.inside.edges c.self.invariant.0.pairs in
    rw (← c.self.view_is, c.is_some.ensures)
    (λ yes. let p = there.0 yes in (p.0, (listed p.0 c.args.node).1 p.1), λ a. there.1 (a.0, (listed a.0 c.args.node).0 a.1))
