use Rattle.std.proofs.Common.{◌≡◌, length, refl, subst, sym}
use Rattle.walks.specs.Walk.{Among}
use Rattle.observer_graph.specs.GraphView.{GraphView, IsLive}
use Rattle.observer_graph.specs.Lists.{list_at}
use Rattle.observer_graph.proofs.SubjectLists.{among_listed, listed_more}
use Rattle.observer_graph.proofs.Turns.{free_as}
use Rattle.observer_graph.proofs.Wholes.{live_among, stands_pairs}
use Rattle.observer_graph.proofs.graph.Graph.watch_spare.Goals as goal

pub link_spare-requires-clause-subject : goal.link_spare-requires-clause-subject
link_spare-requires-clause-subject c = live_among c.self.inside.nodes.items c.self.inside.edges c.self.inside.sources c.self.inside.wave c.self.invariant.0
    c.args.subject (subst (λ (v : GraphView). IsLive v c.args.subject) (sym c.self.view_is) c.requires.subject)

pub link_spare-requires-clause-observer : goal.link_spare-requires-clause-observer
link_spare-requires-clause-observer c = live_among c.self.inside.nodes.items c.self.inside.edges c.self.inside.sources c.self.inside.wave c.self.invariant.0
    c.args.observer (subst (λ (v : GraphView). IsLive v c.args.observer) (sym c.self.view_is) c.requires.observer)

pub link_spare-requires-clause-new : goal.link_spare-requires-clause-new
link_spare-requires-clause-new c = λ p. c.requires.new
    (subst (λ (v : GraphView). Among c.args.subject (list_at v.subjects c.args.observer)) c.self.view_is
    ((among_listed c.self.inside.edges c.self.invariant.0.pairs c.args.subject c.args.observer).1 p))

pub invariant_of-self : goal.invariant_of-self
invariant_of-self c = let same = c.link_spare.ensures.pair.nodes.given in (
  stands_pairs c.self.inside.nodes.items c.self.inside.edges c.self.inside.sources c.self.inside.wave c.self.invariant.0
      c.link_spare.new.self c.whole.ensures c.link_spare.ensures.pair.nodes,
  c.self.invariant.1,
  c.self.invariant.2,
  c.self.invariant.3,
  free_as (length c.self.inside.edges.nodes) (length c.link_spare.new.self.nodes) c.self.inside.down same c.self.invariant.4,
  free_as (length c.self.inside.edges.nodes) (length c.link_spare.new.self.nodes) c.self.inside.up same c.self.invariant.5,
)

pub returns-clause-pair : goal.returns-clause-pair
returns-clause-pair c = rw (← c.self.view_is) (record {
  nodes = refl;
  sources = refl;
  noticed = refl;
  pairs = listed_more c.self.inside.edges c.link_spare.new.self (λ x o. (x ≡ c.args.subject) × (o ≡ c.args.observer))
      c.self.invariant.0.pairs c.whole.ensures c.link_spare.ensures.pair.pairs;
})

pub returns-clause-whole : goal.returns-clause-whole
returns-clause-whole c = (invariant_of-self c).0.whole
