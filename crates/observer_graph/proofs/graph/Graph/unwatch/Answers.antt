use Rattle.std.proofs.Common.{◌≡◌, length, refl, subst, sym}
use Rattle.observer_graph.specs.GraphView.{GraphView, IsLive}
use Rattle.observer_graph.proofs.SubjectLists.{among_listed, listed_less}
use Rattle.observer_graph.proofs.Turns.{free_as}
use Rattle.observer_graph.proofs.Wholes.{live_among, stands_pairs}
use Rattle.observer_graph.proofs.graph.Graph.unwatch.Goals as goal

pub unlink-was-requires-clause-subject : goal.unlink-was-requires-clause-subject
unlink-was-requires-clause-subject c = live_among c.self.inside.nodes.items c.self.inside.edges c.self.inside.sources c.self.inside.wave c.self.invariant.0
    c.args.subject (subst (λ (v : GraphView). IsLive v c.args.subject) (sym c.self.view_is) c.requires.subject)

pub unlink-was-requires-clause-observer : goal.unlink-was-requires-clause-observer
unlink-was-requires-clause-observer c = live_among c.self.inside.nodes.items c.self.inside.edges c.self.inside.sources c.self.inside.wave c.self.invariant.0
    c.args.observer (subst (λ (v : GraphView). IsLive v c.args.observer) (sym c.self.view_is) c.requires.observer)

pub invariant_of-self : goal.invariant_of-self
invariant_of-self c = let same = c.unlink-was.ensures.pair.nodes.given in (
  stands_pairs c.self.inside.nodes.items c.self.inside.edges c.self.inside.sources c.self.inside.wave c.self.invariant.0
      c.unlink-was.new.self c.whole.ensures c.unlink-was.ensures.pair.nodes,
  c.self.invariant.1,
  c.self.invariant.2,
  c.self.invariant.3,
  free_as (length c.self.inside.edges.nodes) (length c.unlink-was.new.self.nodes) c.self.inside.down same c.self.invariant.4,
  free_as (length c.self.inside.edges.nodes) (length c.unlink-was.new.self.nodes) c.self.inside.up same c.self.invariant.5,
)

pub returns-clause-was : goal.returns-clause-was
returns-clause-was c = let listed = among_listed c.self.inside.edges c.self.invariant.0.pairs c.args.subject c.args.observer in
    rw (← c.self.view_is) (λ is. listed.1 (c.unlink-was.ensures.was.0 is), λ a. c.unlink-was.ensures.was.1 (listed.0 a))

pub returns-clause-pairs : goal.returns-clause-pairs
returns-clause-pairs c = rw (← c.self.view_is) (record {
  nodes = refl;
  sources = refl;
  noticed = refl;
  pairs = listed_less c.self.inside.edges c.unlink-was.new.self (λ x o. (x ≡ c.args.subject) × (o ≡ c.args.observer) → ⊥)
      c.self.invariant.0.pairs c.whole.ensures c.unlink-was.ensures.pair.pairs;
})
