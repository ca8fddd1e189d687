use Rattle.std.proofs.Common.{subst, sym}
use Rattle.observer_graph.specs.GraphView.{GraphView, IsLive}
use Rattle.observer_graph.proofs.SubjectLists.{among_listed}
use Rattle.observer_graph.proofs.Wholes.{live_among}
use Rattle.observer_graph.proofs.graph.Graph.has_pair.Goals as goal

pub has_pair-requires : goal.has_pair-requires
has_pair-requires c = live_among c.self.inside.nodes.items c.self.inside.edges c.self.inside.sources c.self.inside.wave c.self.invariant.0
    c.args.observer (subst (λ (v : GraphView). IsLive v c.args.observer) (sym c.self.view_is) c.requires.observer)

pub returns : goal.returns
returns c = let listed = among_listed c.self.inside.edges c.self.invariant.0.pairs c.args.subject c.args.observer in
    rw (← c.self.view_is) (λ is. listed.1 (c.has_pair.ensures.0 is), λ a. c.has_pair.ensures.1 (listed.0 a))
