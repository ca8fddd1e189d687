use Rattle.std.proofs.Common.{◌≡◌, ◌∙◌, ◌+◌, ℕ, List, [], Bool, true, Option, Some, None, inl, inr, ap, sym, subst, length, arith}
use Rattle.std.specs.Prelude.{IfNone, IfSome}
use Rattle.edge_lists.proofs.Linking.{live_within}
use Rattle.wave_queue.specs.Thread.{WaveView, is_marked, open_count}
use Rattle.observer_graph.specs.Noticed.{AreNoticed}
use Rattle.observer_graph.specs.Puts.{carrying}
use Rattle.observer_graph.specs.Telling.{IsFirstPair}
use Rattle.observer_graph.proofs.Filling.{carrying_load, carrying_marks, one_or_none}
use Rattle.observer_graph.proofs.Spreading.{done_popped, spreads_as, spreads_next, told_on}
use Rattle.observer_graph.proofs.walk.pass_on.Goals as goal

if_none : (next : Option ℕ) (w1 w2 : WaveView) → IfNone next ((w1 ≡ w2) × (w2.waiting ≡ []))
    → IfNone next (w2.waiting ≡ [])
if_none None w1 w2 end = end.1
if_none (Some node) w1 w2 end = tt

pub loop-next-init : goal.loop-next-init
loop-next-init c = record {
  len = ap (λ (m : List Bool). length m) c.next_of-next.ensures.marks;
  below = λ o on. c.requires.below o (ap (λ (m : List Bool). is_marked m o) (sym c.next_of-next.ensures.marks) ∙ on);
  stays = λ first o d. done_popped c.args.edges.now first c.args.nodes.now c.args.wave.now c.next_of-next.new.wave
      c.args.noticed.now.items c.next_of-next.ensures.marks o d;
  spreads = λ first noted s. spreads_next c.args.edges.now c.args.sources.now.marks first noted c.args.nodes.now
      c.args.wave.now c.next_of-next.new.wave c.next_of-next.result c.args.noticed.now.items c.next_of-next.ensures.end
      c.next_of-next.ensures.taken c.next_of-next.ensures.marks s;
  first = c.next_of-next.ensures.first;
  marked = c.next_of-next.ensures.marked;
  end = if_none c.next_of-next.result c.args.wave.now c.next_of-next.new.wave c.next_of-next.ensures.end;
  noticed = c.requires.noticed;
  capacity = omega arith;
}

pub tell_observers-carried-requires-clause-nodes : goal.tell_observers-carried-requires-clause-nodes
tell_observers-carried-requires-clause-nodes c = let long = c.loop-next.auto.nodes in let n = c.requires.nodes in omega arith

pub tell_observers-carried-requires-clause-first : goal.tell_observers-carried-requires-clause-first
tell_observers-carried-requires-clause-first c =
    subst (λ (n : Option ℕ). IfSome n (λ o. IsFirstPair c.args.edges.now o c.loop-next.first)) c.in-Some.is c.loop-next.invariant.first

pub tell_observers-carried-requires-clause-wave : goal.tell_observers-carried-requires-clause-wave
tell_observers-carried-requires-clause-wave c = let long = c.loop-next.auto.nodes in let w = c.requires.wave in
    let l = c.loop-next.invariant.len in omega arith

pub tell_observers-carried-requires-clause-noticed : goal.tell_observers-carried-requires-clause-noticed
tell_observers-carried-requires-clause-noticed c =
    let same : length c.args.nodes.now ≡ length c.loop-next.nodes = let long = c.loop-next.auto.nodes in omega arith in
    subst (λ (n : ℕ). AreNoticed c.loop-next.noticed.items n) same c.loop-next.invariant.noticed

pub tell_observers-carried-requires-clause-room : goal.tell_observers-carried-requires-clause-room
tell_observers-carried-requires-clause-room c = let long = c.loop-next.auto.nodes in let r = c.requires.room in
    let m = c.loop-next.invariant.capacity in omega arith

pub next_of-next-requires-in-Some-clause-marked : goal.next_of-next-requires-in-Some-clause-marked
next_of-next-requires-in-Some-clause-marked c = c.tell_observers-carried.ensures.marked

pub next_of-next-requires-in-Some-clause-below : goal.next_of-next-requires-in-Some-clause-below
next_of-next-requires-in-Some-clause-below c = λ o is. elim (c.tell_observers-carried.ensures.puts.from o
    (ap (λ (m : List Bool). is_marked m o) (carrying_marks c.tell_observers-carried.result c.tell_observers-carried.new.wave) ∙ is)) [
      | inl was ↦ c.loop-next.invariant.below o was
      | inr pair ↦ live_within c.args.edges.now.nodes o (c.requires.whole.ends c.in-Some.told o pair).1
    ]

pub loop-next-preserved : goal.loop-next-preserved
loop-next-preserved c =
    let v = c.args.edges.now in
    let puts = c.tell_observers-carried.ensures.puts in
    let behind : WaveView = carrying c.tell_observers-carried.result c.tell_observers-carried.new.wave in
    let marks = c.next_of-next-in-Some.ensures.marks in
    let on = subst (λ (n : Option ℕ). IfSome n (λ o. is_marked c.loop-next.wave.marks o ≡ true)) c.in-Some.is
    c.loop-next.invariant.marked in
    let same : length c.loop-next.nodes ≡ length c.args.nodes.now = let long = c.loop-next.auto.nodes in omega arith in
    record {
      len = ap (λ (m : List Bool). length m) marks ∙ puts.len ∙ c.loop-next.invariant.len;
      below = λ o is. elim (puts.from o (ap (λ (m : List Bool). is_marked m o) (sym marks) ∙ is)) [
        | inl was ↦ c.loop-next.invariant.below o was
        | inr pair ↦ live_within v.nodes o (c.requires.whole.ends c.in-Some.told o pair).1
      ];
      stays = λ first o d. done_popped v first c.tell_observers-carried.new.nodes behind c.next_of-next-in-Some.new.wave
          c.tell_observers-carried.new.noticed.items marks o
          (c.tell_observers-carried.ensures.stays first o (c.loop-next.invariant.stays first o d));
      spreads = λ first noted s0.
          let s = c.loop-next.invariant.spreads first noted s0 in
          spreads_next v c.args.sources.now.marks first noted c.tell_observers-carried.new.nodes behind c.next_of-next-in-Some.new.wave
          c.next_of-next-in-Some.result c.tell_observers-carried.new.noticed.items c.next_of-next-in-Some.ensures.end c.next_of-next-in-Some.ensures.taken marks
          (c.tell_observers-carried.ensures.spreads c.args.sources.now.marks first noted
          (spreads_as v c.args.sources.now.marks first noted (λ x o. c.loop-next.next ≡ Some x) (λ x o. x ≡ c.in-Some.told)
          c.loop-next.nodes c.loop-next.wave c.loop-next.noticed.items
          (λ x o pair is. inr (some_same (sym is ∙ c.in-Some.is))) s)
          (λ o pair. told_on v c.requires.whole first c.args.sources.now.marks c.in-Some.told o pair
          (s.told c.in-Some.told on).1 (s.told c.in-Some.told on).0)).0;
      first = c.next_of-next-in-Some.ensures.first;
      marked = c.next_of-next-in-Some.ensures.marked;
      end = if_none c.next_of-next-in-Some.result behind c.next_of-next-in-Some.new.wave c.next_of-next-in-Some.ensures.end;
      noticed = subst (λ (n : ℕ). AreNoticed c.tell_observers-carried.new.noticed.items n) same
          c.tell_observers-carried.ensures.noticed;
      capacity = let a = c.loop-next.invariant.capacity in let b = c.tell_observers-carried.ensures.capacity in omega arith;
    }
  where
    some_same : {x y : ℕ} → Some x ≡ Some y → x ≡ y
    some_same e = cc

pub loop-next-smaller : goal.loop-next-smaller
loop-next-smaller c =
    let l = carrying_load (open_count c.loop-next.wave.marks + length c.loop-next.wave.waiting) c.next_of-next-in-Some.result
    (carrying c.tell_observers-carried.result c.tell_observers-carried.new.wave) c.next_of-next-in-Some.new.wave c.next_of-next-in-Some.ensures.marks
    c.next_of-next-in-Some.ensures.end c.next_of-next-in-Some.ensures.load c.tell_observers-carried.ensures.puts.load in
    let e = ap one_or_none c.in-Some.is in omega arith

pub returns-clause-spreads : goal.returns-clause-spreads
returns-clause-spreads c = λ first noted s.
    spreads_as c.args.edges.now c.args.sources.now.marks first noted (λ x o. c.loop-next.next ≡ Some x) (λ x o. ⊥)
    c.loop-next.nodes c.loop-next.wave c.loop-next.noticed.items
    (λ x o pair is. absurd (none_some (sym c.in_default.is ∙ is))) (c.loop-next.invariant.spreads first noted s)
  where
    none_some : {x : ℕ} → None ≡ Some x → ⊥
    none_some e = cc

pub returns-clause-end : goal.returns-clause-end
returns-clause-end c = subst (λ (n : Option ℕ). IfNone n (c.loop-next.wave.waiting ≡ [])) c.in_default.is
    c.loop-next.invariant.end
