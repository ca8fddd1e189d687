use Rattle.std.proofs.Common.{◌≡◌, ◌∙◌, ◌<◌, ℕ, List, [], Bool, true, inl, inr, length, ap, refl, subst, sym, arith}
use Rattle.std.proofs.lemmas.Bool.{false≢true}
use Rattle.walks.specs.Walk.{Among}
use Rattle.edge_lists.proofs.Linking.{live_within}
use Rattle.wave_queue.specs.Thread.{is_marked}
use Rattle.observer_graph.specs.Late.{is_held_back}
use Rattle.observer_graph.specs.Turns.{reads_in}
use Rattle.observer_graph.specs.Walks.{Leads, graph_of}
use Rattle.observer_graph.proofs.Filling.{fills_all, fills_next, first_alone, first_fills, first_on, first_put, first_waits, puts_below}
use Rattle.observer_graph.proofs.Turns.{down_all, leads_down, pair_given}
use Rattle.observer_graph.proofs.beneath.is_clear.Goals as goal

pub push-requires : goal.push-requires
push-requires c = let f = c.requires.from in let n = c.requires.nodes in let r = c.requires.wave.room in omega arith

pub loop-node-init : goal.loop-node-init
loop-node-init c =
    let low : c.args.from < length c.args.edges.now.nodes = let f = c.requires.from in let n = c.requires.nodes in omega arith in
    let n : ℕ = length c.args.edges.now.nodes in
    let w0 = c.args.wave.now in
    let w1 = c.push.new.self in
    let fresh = c.push.ensures.was in
    let marks = c.push.ensures.marks in
    let waiting = c.push.ensures.waiting in
    record {
      room = (first_put n c.args.from c.push.result w0 w1 c.requires.wave low fresh marks waiting).len;
      below = λ o on. subst (λ (z : ℕ). z < length c.args.nodes.now)
          (sym (first_alone n c.args.from c.push.result w0 w1 c.requires.wave low fresh marks waiting o on)) c.requires.from;
      start = first_on n c.args.from c.push.result w0 w1 c.requires.wave low fresh marks waiting;
      fills = first_fills n c.args.from c.push.result w0 w1 c.requires.wave low fresh marks waiting
          (λ y. Leads (reads_in c.args.nodes.now c.args.edges.now) c.args.from y)
          (λ x y. Among y (reads_in c.args.nodes.now c.args.edges.now x)) (inl refl);
      free = λ x on. inl (first_waits n c.args.from c.push.result w0 w1 c.requires.wave low fresh marks waiting x on);
    }

pub is_held_back-requires-clause-within : goal.is_held_back-requires-clause-within
is_held_back-requires-clause-within c = c.loop-node.invariant.below c.in-Some.node c.in-Some.ensures.marked

pub put_edges-requires-clause-node : goal.put_edges-requires-clause-node
put_edges-requires-clause-node c = c.loop-node.invariant.below c.in-Some.node c.in-Some.ensures.marked

pub put_edges-requires-clause-room : goal.put_edges-requires-clause-room
put_edges-requires-clause-room c =
    let n = c.requires.nodes in let f = c.requires.wave.room in let r = c.loop-node.invariant.room in
    let m = ap (λ (m : List Bool). length m) c.in-Some.ensures.marks in omega arith

pub loop-node-preserved : goal.loop-node-preserved
loop-node-preserved c =
    let reads : ℕ → List ℕ = reads_in c.args.nodes.now c.args.edges.now in
    let IsMet : ℕ → Type 0 = λ y. Leads reads c.args.from y in
    let next : ℕ → ℕ → Type 0 = λ x y. Among y (reads x) in
    let P : ℕ → Type 0 = λ x. next c.in-Some.node x in
    let w1 = c.loop-node.wave in
    let w2 = c.pop.new.self in
    let w3 = c.put_edges.new.wave in
    let puts = c.put_edges.ensures.puts in
    let marks = c.in-Some.ensures.marks in
    record {
      room = puts.len ∙ ap (λ (m : List Bool). length m) marks ∙ c.loop-node.invariant.room;
      below = puts_below (length c.args.nodes.now) w1 w2 w3 P marks puts (λ x p.
          let w = live_within c.args.edges.now.nodes x (c.requires.whole.ends x c.in-Some.node
          (pair_given c.args.nodes.now c.args.edges.now c.requires.whole x c.in-Some.node p)).0 in
          let n = c.requires.nodes in omega arith) c.loop-node.invariant.below;
      start = puts.kept_marks c.args.from (ap (λ (m : List Bool). is_marked m c.args.from) marks ∙ c.loop-node.invariant.start);
      fills = fills_next IsMet next w1 w2 w3 c.in-Some.node P c.loop-node.invariant.fills c.in-Some.ensures.waiting marks puts
          (λ x p. leads_down reads c.args.from c.in-Some.node x p
          (c.loop-node.invariant.fills.met c.in-Some.node c.in-Some.ensures.marked))
          (λ x p. c.put_edges.ensures.all x p);
      free = λ x on. elim (puts.waits x on) [
        | inr waits ↦ inl waits
        | inl was ↦ elim (c.loop-node.invariant.free x (ap (λ (m : List Bool). is_marked m x) (sym marks) ∙ was)) [
          | inl waits ↦ elim (subst (λ (xs : List ℕ). Among x xs) c.in-Some.ensures.waiting waits) [
            | inl same ↦ inr (ap (λ (z : ℕ). is_held_back (graph_of c.args.nodes.now [] c.args.sources.now.marks) z) same
                ∙ sym c.is_held_back.ensures ∙ c.if-is_held_back.false)
            | inr rest ↦ inl (puts.kept x rest)
          ]
          | inr done ↦ inr done
        ]
      ];
    }

pub returns-then-is_held_back-clause-clear : goal.returns-then-is_held_back-clause-clear
returns-then-is_held_back-clause-clear c = (
  λ yes. absurd (false≢true yes),
  λ clear. sym (clear c.in-Some.node (c.loop-node.invariant.fills.met c.in-Some.node c.in-Some.ensures.marked))
      ∙ sym c.is_held_back.ensures ∙ c.if-is_held_back.true,
)

pub returns-clause-clear : goal.returns-clause-clear
returns-clause-clear c =
    let reads : ℕ → List ℕ = reads_in c.args.nodes.now c.args.edges.now in
    let w1 = c.loop-node.wave in
    let none = c.in_default.ensures.waiting in (
      λ yes x leads. elim (c.loop-node.invariant.free x (down_all reads (λ y. is_marked w1.marks y ≡ true)
          (λ x y on a. fills_all (λ y. Leads reads c.args.from y) (λ x y. Among y (reads x)) w1 c.loop-node.invariant.fills none x y on a)
          c.args.from x c.loop-node.invariant.start leads)) [
            | inl waits ↦ absurd (subst (λ (xs : List ℕ). Among x xs) none waits)
            | inr done ↦ done
          ],
      λ clear. refl,
    )
