use Rattle.std.proofs.Common.{◌≡◌, ◌∙◌, ◌<◌, ℕ, List, Bool, true, Option, None, inl, inr, length, ap, refl, subst, sym, arith}
use Rattle.std.specs.Prelude.{not, slice_index_or}
use Rattle.walks.specs.Walk.{Among}
use Rattle.edge_lists.specs.EdgesView.{subject_lists}
use Rattle.edge_lists.proofs.Linking.{live_within}
use Rattle.wave_queue.specs.Thread.{is_marked}
use Rattle.observer_graph.specs.Late.{IsLateOf, frozen_of}
use Rattle.observer_graph.specs.Turns.{goes_beneath, reads_in}
use Rattle.observer_graph.specs.Walks.{graph_of}
use Rattle.observer_graph.proofs.Exposed.{Leads, leads_all, leads_on, goes_by, goes_of}
use Rattle.observer_graph.proofs.Filling.{fills_all, fills_next, first_alone, first_fills, first_on, first_put, first_waits, puts_below}
use Rattle.observer_graph.proofs.Least.{IsLeastYet, least_as, yet_all, yet_first, yet_step, yet_wider}
use Rattle.observer_graph.proofs.Turns.{pair_given}
use Rattle.observer_graph.proofs.beneath.least_beneath.Goals as goal

pub push-requires : goal.push-requires
push-requires c = let f = c.requires.from in let n = c.requires.nodes in let r = c.requires.wave.room in omega arith

pub loop-node-init : goal.loop-node-init
loop-node-init c =
    let low : c.args.from < length c.args.edges.now.nodes = let f = c.requires.from in let n = c.requires.nodes in omega arith in
    let n : ℕ = length c.args.edges.now.nodes in
    let w0 = c.args.wave.now in
    let w1 = c.push.new.self in
    let fresh = c.push.ensures.was in
    let marks = c.push.ensures.marks in
    let waiting = c.push.ensures.waiting in
    record {
      room = (first_put n c.args.from c.push.result w0 w1 c.requires.wave low fresh marks waiting).len;
      below = λ o on. subst (λ (z : ℕ). z < length c.args.nodes.now)
          (sym (first_alone n c.args.from c.push.result w0 w1 c.requires.wave low fresh marks waiting o on)) c.requires.from;
      start = first_on n c.args.from c.push.result w0 w1 c.requires.wave low fresh marks waiting;
      fills = first_fills n c.args.from c.push.result w0 w1 c.requires.wave low fresh marks waiting
          (λ y. Leads (reads_in c.args.nodes.now c.args.edges.now) (λ z. not (frozen_of (slice_index_or c.args.nodes.now z None))) c.args.from y)
          (λ x y. (goes_beneath c.args.nodes.now c.args.from x ≡ true) × Among y (reads_in c.args.nodes.now c.args.edges.now x)) (inl refl);
      least = yet_first (λ o. (is_marked w1.marks o ≡ true) × (is_marked c.args.sources.now.marks o ≡ true)) w1.waiting
          (λ o p. first_waits n c.args.from c.push.result w0 w1 c.requires.wave low fresh marks waiting o p.0);
    }

pub least_with-least-requires : goal.least_with-least-requires
least_with-least-requires c =
    let low = c.loop-node.invariant.below c.in-Some.node c.in-Some.ensures.marked in let s = c.requires.sources in omega arith

pub go_down-requires-clause-node : goal.go_down-requires-clause-node
go_down-requires-clause-node c = c.loop-node.invariant.below c.in-Some.node c.in-Some.ensures.marked

pub go_down-requires-clause-room : goal.go_down-requires-clause-room
go_down-requires-clause-room c =
    let n = c.requires.nodes in let f = c.requires.wave.room in let r = c.loop-node.invariant.room in
    let m = ap (λ (m : List Bool). length m) c.in-Some.ensures.marks in omega arith

pub loop-node-preserved : goal.loop-node-preserved
loop-node-preserved c =
    let reads : ℕ → List ℕ = reads_in c.args.nodes.now c.args.edges.now in
    let through : ℕ → Bool = λ z. not (frozen_of (slice_index_or c.args.nodes.now z None)) in
    let IsMet : ℕ → Type 0 = λ y. Leads reads through c.args.from y in
    let next : ℕ → ℕ → Type 0 = λ x y. (goes_beneath c.args.nodes.now c.args.from x ≡ true) × Among y (reads x) in
    let P : ℕ → Type 0 = λ x. next c.in-Some.node x in
    let w1 = c.loop-node.wave in
    let w2 = c.pop.new.self in
    let w3 = c.go_down.new.wave in
    let puts = c.go_down.ensures.puts in
    let marks = c.in-Some.ensures.marks in
    let on : (o : ℕ) → is_marked w1.marks o ≡ true → is_marked w2.marks o ≡ true =
    λ o is. ap (λ (m : List Bool). is_marked m o) marks ∙ is in
    let back : (o : ℕ) → is_marked w2.marks o ≡ true → is_marked w1.marks o ≡ true =
    λ o is. ap (λ (m : List Bool). is_marked m o) (sym marks) ∙ is in
    record {
      room = puts.len ∙ ap (λ (m : List Bool). length m) marks ∙ c.loop-node.invariant.room;
      below = puts_below (length c.args.nodes.now) w1 w2 w3 P marks puts (λ x p.
          let w = live_within c.args.edges.now.nodes x (c.requires.whole.ends x c.in-Some.node
          (pair_given c.args.nodes.now c.args.edges.now c.requires.whole x c.in-Some.node p.1)).0 in
          let n = c.requires.nodes in omega arith) c.loop-node.invariant.below;
      start = puts.kept_marks c.args.from (on c.args.from c.loop-node.invariant.start);
      fills = fills_next IsMet next w1 w2 w3 c.in-Some.node P c.loop-node.invariant.fills c.in-Some.ensures.waiting marks puts
          (λ x p. leads_on reads through c.args.from c.in-Some.node x p.1
          (goes_of reads through c.args.from c.in-Some.node p.0)
          (c.loop-node.invariant.fills.met c.in-Some.node c.in-Some.ensures.marked))
          (λ x p. c.go_down.ensures.all p.0 x p.1);
      least = subst (λ (f : Option ℕ). IsLeastYet (λ o. (is_marked w3.marks o ≡ true) × (is_marked c.args.sources.now.marks o ≡ true))
          w3.waiting f) (sym c.least_with-least.ensures)
          (yet_wider (λ o. (is_marked w1.marks o ≡ true) × (is_marked c.args.sources.now.marks o ≡ true))
          (λ o. (is_marked w3.marks o ≡ true) × (is_marked c.args.sources.now.marks o ≡ true)) w2.waiting w3.waiting _
          (λ o p. (puts.kept_marks o (on o p.0), p.1))
          (λ o p. elim (puts.waits o p.0) [ inl was ↦ inl (back o was, p.1) | inr waits ↦ inr waits ])
          puts.kept
          (yet_step (λ o. (is_marked w1.marks o ≡ true) × (is_marked c.args.sources.now.marks o ≡ true)) c.in-Some.node
          w1.waiting w2.waiting c.loop-node.least (is_marked c.args.sources.now.marks c.in-Some.node) c.in-Some.ensures.waiting
          (λ is. (c.in-Some.ensures.marked, is)) (λ p. p.1) c.loop-node.invariant.least));
    }

pub returns-clause-least : goal.returns-clause-least
returns-clause-least c =
    let reads : ℕ → List ℕ = reads_in c.args.nodes.now c.args.edges.now in
    let through : ℕ → Bool = λ z. not (frozen_of (slice_index_or c.args.nodes.now z None)) in
    let w1 = c.loop-node.wave in
    let none = c.in_default.ensures.waiting in
    let P : ℕ → Type 0 = λ o. (is_marked w1.marks o ≡ true) × (is_marked c.args.sources.now.marks o ≡ true) in
    least_as P (IsLateOf (graph_of c.args.nodes.now (subject_lists c.args.edges.now) c.args.sources.now.marks) c.args.from)
    c.loop-node.least (λ x p. (p.1, c.loop-node.invariant.fills.met x p.0))
    (λ x late. (
      leads_all reads through c.args.from (λ y. is_marked w1.marks y ≡ true) c.loop-node.invariant.start
          (λ y z on goes a. fills_all (λ y. Leads reads through c.args.from y)
          (λ x y. (goes_beneath c.args.nodes.now c.args.from x ≡ true) × Among y (reads x)) w1 c.loop-node.invariant.fills none y z on
          (goes_by reads through c.args.from y goes, a)) x late.1,
      late.0,
    ))
    (yet_all P w1.waiting c.loop-node.least (λ o a. subst (λ (xs : List ℕ). Among o xs) none a) c.loop-node.invariant.least)
