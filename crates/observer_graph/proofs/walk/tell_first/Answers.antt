use Rattle.std.proofs.Common.{◌≡◌, ◌<◌, ◌∙◌, ◌++◌, ◌∷◌, [], ℕ, List, false, inl, inr, ap, refl, sym, subst, take, length, arith}
use Rattle.std.specs.Prelude.{slice_index_or}
use Rattle.std.proofs.lemmas.List.{take_more, take_all}
use Rattle.walks.specs.Walk.{Among}
use Rattle.edge_lists.specs.EdgesView.{IsPair}
use Rattle.wave_queue.specs.Thread.{WaveView}
use Rattle.edge_lists.proofs.Linking.{live_within}
use Rattle.observer_graph.specs.Noticed.{AreNoticed}
use Rattle.observer_graph.specs.Puts.{Puts}
use Rattle.observer_graph.specs.Telling.{IsDone, Spreads}
use Rattle.observer_graph.proofs.Filling.{carrying_none, never_carried}
use Rattle.observer_graph.proofs.Members.{among_item, among_last}
use Rattle.observer_graph.proofs.Marks.{marked_within}
use Rattle.observer_graph.proofs.Spreading.{spreads_as, spreads_none, told_first}
use Rattle.observer_graph.proofs.Turns.{none_below}
use Rattle.observer_graph.proofs.walk.tell_first.Goals as goal

pub loop-source-init : goal.loop-source-init
loop-source-init c = record {
  len = refl;
  below = none_below (length c.args.edges.now.nodes) (length c.args.edges.now.nodes) c.args.wave.now c.requires.wave;
  spreads = spreads_none c.args.edges.now c.args.sources.now.marks c.args.nodes.now c.args.noticed.now.items
      (length c.args.edges.now.nodes) (λ x o. ⊥) c.args.wave.now c.requires.wave;
  starts = λ x o a pair. absurd (none_taken c.args.sources.now.items x a);
  noticed = c.requires.noticed;
  capacity = omega arith;
}
  where
    none_taken : (xs : List ℕ) (x : ℕ) → Among x (take 0 xs) → ⊥
    none_taken [] x a = a
    none_taken (y ∷ ys) x a = a

pub tell_observers-requires-clause-nodes : goal.tell_observers-requires-clause-nodes
tell_observers-requires-clause-nodes c = let long = c.loop-source.auto.nodes in let n = c.requires.nodes in omega arith

pub first_observer-first-requires : goal.first_observer-first-requires
first_observer-first-requires c =
    let here = among_item c.args.sources.now.items c.loop-source.source-index c.source-item.result
    (subst (λ (l : List ℕ). c.loop-source.source-index < length l) c.items-source-items.ensures.items c.loop-source-test.true)
    (subst (λ (l : List ℕ). c.source-item.result ≡ slice_index_or l c.loop-source.source-index c.source-item.result)
    c.items-source-items.ensures.items c.source-item.is) in
    let low = marked_within c.args.sources.now.marks c.source-item.result (c.items-source-items.ensures.set.marked c.source-item.result here) in
    let s = c.requires.sources in omega arith

pub tell_observers-requires-clause-first : goal.tell_observers-requires-clause-first
tell_observers-requires-clause-first c = record { given = c.first_observer-first.ensures.given; of = c.first_observer-first.ensures.of }

pub tell_observers-requires-clause-wave : goal.tell_observers-requires-clause-wave
tell_observers-requires-clause-wave c = let long = c.loop-source.auto.nodes in let n = c.requires.nodes in
    let f = c.requires.wave.room in let l = c.loop-source.invariant.len in omega arith

pub tell_observers-requires-clause-noticed : goal.tell_observers-requires-clause-noticed
tell_observers-requires-clause-noticed c =
    let same : length c.args.nodes.now ≡ length c.loop-source.nodes = let long = c.loop-source.auto.nodes in omega arith in
    subst (λ (n : ℕ). AreNoticed c.loop-source.noticed.items n) same c.loop-source.invariant.noticed

pub tell_observers-requires-clause-room : goal.tell_observers-requires-clause-room
tell_observers-requires-clause-room c = let long = c.loop-source.auto.nodes in let r = c.requires.room in
    let m = c.loop-source.invariant.capacity in omega arith

pub loop-source-preserved : goal.loop-source-preserved
loop-source-preserved c =
    let v = c.args.edges.now in
    let items : List ℕ = c.args.sources.now.items in
    let low = (subst (λ (l : List ℕ). c.loop-source.source-index < length l) c.items-source-items.ensures.items c.loop-source-test.true) in
    let is = (subst (λ (l : List ℕ). c.source-item.result ≡ slice_index_or l c.loop-source.source-index c.source-item.result)
    c.items-source-items.ensures.items c.source-item.is) in
    let here = c.items-source-items.ensures.set.marked c.source-item.result (among_item items c.loop-source.source-index c.source-item.result low is) in
    let taken = take_more items c.loop-source.source-index c.source-item.result low ∙ ap (λ (z : ℕ). take c.loop-source.source-index items ++ z ∷ []) (sym is) in
    let same : length c.loop-source.nodes ≡ length c.args.nodes.now = let long = c.loop-source.auto.nodes in omega arith in
    let plain = carrying_none c.tell_observers.result c.tell_observers.new.wave
    (never_carried c.tell_observers.result false c.tell_observers.ensures.carried refl) in
    let puts = subst (λ (w : WaveView). Puts c.loop-source.wave w (λ o. IsPair v c.source-item.result o)) plain
    c.tell_observers.ensures.puts in
    let told = c.tell_observers.ensures.spreads c.args.sources.now.marks c.args.nodes.now c.args.noticed.now.items
    (spreads_as v c.args.sources.now.marks c.args.nodes.now c.args.noticed.now.items (λ x o. ⊥) (λ x o. x ≡ c.source-item.result)
    c.loop-source.nodes c.loop-source.wave c.loop-source.noticed.items (λ x o pair never. absurd never) c.loop-source.invariant.spreads)
    (λ o pair. told_first v c.requires.whole c.args.nodes.now c.args.sources.now.marks c.source-item.result o pair here) in
    record {
      len = puts.len ∙ c.loop-source.invariant.len;
      below = λ o on. elim (puts.from o on) [
        | inl was ↦ c.loop-source.invariant.below o was
        | inr pair ↦ live_within v.nodes o (c.requires.whole.ends c.source-item.result o pair).1
      ];
      spreads = subst (λ (w : WaveView). Spreads v c.args.sources.now.marks c.args.nodes.now c.args.noticed.now.items
          (λ x o. ⊥) c.tell_observers.new.nodes w c.tell_observers.new.noticed.items) plain told.0;
      starts = λ x o a pair. subst (λ (w : WaveView). IsDone v c.args.nodes.now c.tell_observers.new.nodes w
          c.tell_observers.new.noticed.items o) plain (elim ((among_last x (take c.loop-source.source-index items) c.source-item.result).0 (subst (Among x) taken a)) [
            | inl was ↦ c.tell_observers.ensures.stays c.args.nodes.now o (c.loop-source.invariant.starts x o was pair)
            | inr is ↦ told.1 o (subst (λ (z : ℕ). IsPair v z o) is pair)
          ]);
      noticed = subst (λ (n : ℕ). AreNoticed c.tell_observers.new.noticed.items n) same c.tell_observers.ensures.noticed;
      capacity = let a = c.loop-source.invariant.capacity in let b = c.tell_observers.ensures.capacity in omega arith;
    }

pub returns-clause-starts : goal.returns-clause-starts
returns-clause-starts c = λ x o pair on. c.loop-source.invariant.starts x o (subst (Among x)
    (sym (take_all c.loop-source.source-index c.args.sources.now.items (let e = ap length c.items-source-items.ensures.items in let t = c.loop-source-test.false in omega arith))) (c.items-source-items.ensures.set.listed x on)) pair
