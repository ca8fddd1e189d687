use Rattle.std.proofs.Common.{ℕ, Option, None, arith, subst}
use Rattle.std.specs.Prelude.{IfSome, slice_index_or}
use Rattle.walks.specs.Walk.{Among}
use Rattle.edge_lists.specs.EdgesView.{IsPair, HasSubject, observers_from}
use Rattle.edge_lists.proofs.Listing.{edge_ahead, observers_none, subject_there}
use Rattle.observer_graph.specs.GraphView.{IsWatcher}
use Rattle.observer_graph.proofs.Least.{yet_first, yet_all}
use Rattle.observer_graph.proofs.pairs.least_user_of.Goals as goal

pub loop-at-init : goal.loop-at-init
loop-at-init c = record {
  of = c.first_observer-at.ensures.of;
  least = yet_first (λ o. IsPair c.args.edges.now c.args.node o × (IsWatcher (slice_index_or c.args.nodes.now o None) → ⊥))
      (observers_from c.args.edges.now c.first_observer-at.result) (λ o p. (c.first_observer-at.ensures.given o).1 p.0);
}

pub observer_and_next-observer-requires : goal.observer_and_next-observer-requires
observer_and_next-observer-requires c = subject_there c.args.edges.now c.in-Some.edge c.args.node
    (subst (λ (f : Option ℕ). IfSome f (λ edge. HasSubject c.args.edges.now edge c.args.node)) c.in-Some.is c.loop-at.invariant.of)

pub bounds-nodes-place : goal.bounds-nodes-place
bounds-nodes-place c =
    let has = subst (λ (f : Option ℕ). IfSome f (λ edge. HasSubject c.args.edges.now edge c.args.node)) c.in-Some.is c.loop-at.invariant.of in
    let pair = edge_ahead c.args.edges.now c.in-Some.edge c.args.node c.args.node c.observer_and_next-observer.result.0 has (record { subject = has; observer = c.observer_and_next-observer.ensures.observer }) in
    let w = c.requires.within c.observer_and_next-observer.result.0 pair in let p = c.place.ensures in omega arith

pub returns : goal.returns
returns c = yet_all
    (λ o. IsPair c.args.edges.now c.args.node o × (IsWatcher (slice_index_or c.args.nodes.now o None) → ⊥))
    (observers_from c.args.edges.now c.loop-at.at) c.loop-at.least
    (λ o a. observers_none c.args.edges.now o
    (subst (λ (f : Option ℕ). Among o (observers_from c.args.edges.now f)) c.in_default.is a))
    c.loop-at.invariant.least
