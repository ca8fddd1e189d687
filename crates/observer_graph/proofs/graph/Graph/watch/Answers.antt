use Rattle.std.proofs.Common.{◌≡◌, ap, length, refl, subst, sym}
use Rattle.std.proofs.lemmas.Result.{on_ok_weaker}
use Rattle.walks.specs.Walk.{Among}
use Rattle.edge_lists.specs.EdgesView.{AddsPair, EdgesView, SameNodes}
use Rattle.observer_graph.specs.GraphView.{GraphView, IsLive}
use Rattle.observer_graph.specs.Lists.{list_at}
use Rattle.observer_graph.proofs.SubjectLists.{among_listed, listed_more}
use Rattle.observer_graph.proofs.Turns.{free_as}
use Rattle.observer_graph.proofs.Wholes.{either, live_among, same_nodes, stands_pairs}
use Rattle.observer_graph.proofs.graph.Graph.watch.Goals as goal

pub link-linked-requires-clause-subject : goal.link-linked-requires-clause-subject
link-linked-requires-clause-subject c = live_among c.self.inside.nodes.items c.self.inside.edges c.self.inside.sources c.self.inside.wave c.self.invariant.0
    c.args.subject (subst (λ (v : GraphView). IsLive v c.args.subject) (sym c.self.view_is) c.requires.subject)

pub link-linked-requires-clause-observer : goal.link-linked-requires-clause-observer
link-linked-requires-clause-observer c = live_among c.self.inside.nodes.items c.self.inside.edges c.self.inside.sources c.self.inside.wave c.self.invariant.0
    c.args.observer (subst (λ (v : GraphView). IsLive v c.args.observer) (sym c.self.view_is) c.requires.observer)

pub link-linked-requires-clause-new : goal.link-linked-requires-clause-new
link-linked-requires-clause-new c = λ p. c.requires.new
    (subst (λ (v : GraphView). Among c.args.subject (list_at v.subjects c.args.observer)) c.self.view_is
    ((among_listed c.self.inside.edges c.self.invariant.0.pairs c.args.subject c.args.observer).1 p))

alike : (c : goal.After-whole) → SameNodes c.self.inside.edges c.link-linked.new.self
alike c = either c.link-linked.result c.link-linked.ensures.ok c.link-linked.ensures.err (λ adds. adds.nodes)
    (λ is. same_nodes c.self.inside.edges c.link-linked.new.self (ap (λ (v : EdgesView). v.nodes) is))

pub invariant_of-self : goal.invariant_of-self
invariant_of-self c = let same = (alike c).given in (
  stands_pairs c.self.inside.nodes.items c.self.inside.edges c.self.inside.sources c.self.inside.wave c.self.invariant.0
      c.link-linked.new.self c.whole.ensures (alike c),
  c.self.invariant.1,
  c.self.invariant.2,
  c.self.invariant.3,
  free_as (length c.self.inside.edges.nodes) (length c.link-linked.new.self.nodes) c.self.inside.down same c.self.invariant.4,
  free_as (length c.self.inside.edges.nodes) (length c.link-linked.new.self.nodes) c.self.inside.up same c.self.invariant.5,
)

pub returns-clause-ok : goal.returns-clause-ok
returns-clause-ok c = rw (← c.self.view_is) (on_ok_weaker c.link-linked.result
    (λ (adds : AddsPair c.self.inside.edges c.link-linked.new.self c.args.subject c.args.observer). record {
      nodes = refl;
      sources = refl;
      noticed = refl;
      pairs = listed_more c.self.inside.edges c.link-linked.new.self (λ x o. (x ≡ c.args.subject) × (o ≡ c.args.observer))
          c.self.invariant.0.pairs c.whole.ensures adds.pairs;
    }) c.link-linked.ensures.ok)

pub returns-clause-whole : goal.returns-clause-whole
returns-clause-whole c = (invariant_of-self c).0.whole
