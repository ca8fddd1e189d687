use Rattle.std.proofs.Common.{◌≡◌, ◌⊎◌, inl, inr, ◌∙◌, ap, sym, subst, refl, arith, ℕ, true, List, length, Option, Some, None}
use Rattle.std.specs.Prelude.{IfSome}
use Rattle.walks.specs.Walk.{Among}
use Rattle.wave_queue.specs.Thread.{WaveView}
use Rattle.edge_lists.specs.EdgesView.{IsPair, HasSubject, observers_from}
use Rattle.edge_lists.proofs.Linking.{live_within}
use Rattle.edge_lists.proofs.Listing.{observers_step, subject_next, observers_none, subject_there}
use Rattle.observer_graph.specs.Noticed.{AreNoticed}
use Rattle.observer_graph.specs.Puts.{Puts, carrying}
use Rattle.observer_graph.specs.Telling.{IsDone, Spreads}
use Rattle.observer_graph.proofs.Filling.{carrying_none, last_alone, none_carried, puts_none, puts_then}
use Rattle.observer_graph.proofs.Spreading.{spreads_as}
use Rattle.observer_graph.proofs.walk.tell_observers.Goals as goal

pub loop-at-init : goal.loop-at-init
loop-at-init c = record {
  of = c.requires.first.of;
  ahead = λ o a. (c.requires.first.given o).0 a;
  carried = tt;
  first = tt;
  marked = tt;
  puts = puts_none c.args.wave.now (λ o. IsPair c.args.edges.now c.args.from o);
  stays = λ first o d. d;
  spreads = λ sources first noted s told. (
    spreads_as c.args.edges.now sources first noted (λ x o. x ≡ c.args.from)
        (λ x o. (x ≡ c.args.from) × Among o (observers_from c.args.edges.now c.args.first.now)) c.args.nodes.now
        c.args.wave.now c.args.noticed.now.items (λ x o pair same. inr (
          same,
          (c.requires.first.given o).1
              (subst (λ (z : ℕ). IsPair c.args.edges.now z o) same pair),
        )) s,
    λ o pair. inr ((c.requires.first.given o).1 pair),
  );
  noticed = c.requires.noticed;
  capacity = omega arith;
}

pub observer_and_next-observer-requires : goal.observer_and_next-observer-requires
observer_and_next-observer-requires c = subject_there c.args.edges.now c.in-Some.edge c.args.from
    (subst (λ (f : Option ℕ). IfSome f (λ edge. HasSubject c.args.edges.now edge c.args.from)) c.in-Some.is c.loop-at.invariant.of)

pub tell_one-carried-requires-clause-nodes : goal.tell_one-carried-requires-clause-nodes
tell_one-carried-requires-clause-nodes c = let long = c.loop-at.auto.nodes in let n = c.requires.nodes in omega arith

pub tell_one-carried-requires-clause-told : goal.tell_one-carried-requires-clause-told
tell_one-carried-requires-clause-told c =
    let has = subst (λ (f : Option ℕ). IfSome f (λ edge. HasSubject c.args.edges.now edge c.args.from)) c.in-Some.is c.loop-at.invariant.of in
    let step = ap (observers_from c.args.edges.now) c.in-Some.is ∙ observers_step c.args.edges.now c.in-Some.edge c.args.from
    c.observer_and_next-observer.result.0 c.observer_and_next-observer.result.1 c.observer_and_next-observer.ensures.next
    (record { subject = has; observer = c.observer_and_next-observer.ensures.observer }) in
    let pair = c.loop-at.invariant.ahead c.observer_and_next-observer.result.0
    (subst (λ (xs : List ℕ). Among c.observer_and_next-observer.result.0 xs) (sym step) (inl refl)) in
    live_within c.args.edges.now.nodes c.observer_and_next-observer.result.0
    (c.requires.whole.ends c.args.from c.observer_and_next-observer.result.0 pair).1

pub tell_one-carried-requires-clause-wave : goal.tell_one-carried-requires-clause-wave
tell_one-carried-requires-clause-wave c =
    let plain = carrying_none c.loop-at.carried c.loop-at.wave (none_carried c.loop-at.carried c.loop-at.at
    c.in-Some.edge (λ o. c.args.carries ≡ true) c.loop-at.invariant.carried c.in-Some.is) in
    let long = c.loop-at.auto.nodes in let w = c.requires.wave in
    let l = ap (λ (w : WaveView). length w.marks) (sym plain) ∙ c.loop-at.invariant.puts.len in omega arith

pub tell_one-carried-requires-clause-noticed : goal.tell_one-carried-requires-clause-noticed
tell_one-carried-requires-clause-noticed c =
    let same : length c.args.nodes.now ≡ length c.loop-at.nodes = let long = c.loop-at.auto.nodes in omega arith in
    subst (λ (n : ℕ). AreNoticed c.loop-at.noticed.items n) same c.loop-at.invariant.noticed

pub tell_one-carried-requires-clause-room : goal.tell_one-carried-requires-clause-room
tell_one-carried-requires-clause-room c = let long = c.loop-at.auto.nodes in let r = c.requires.room in
    let m = c.loop-at.invariant.capacity in omega arith

pub loop-at-preserved : goal.loop-at-preserved
loop-at-preserved c =
    let v = c.args.edges.now in
    let observer = c.observer_and_next-observer.result.0 in
    let rest = observers_from v c.observer_and_next-observer.result.1 in
    let has = subst (λ (f : Option ℕ). IfSome f (λ edge. HasSubject c.args.edges.now edge c.args.from)) c.in-Some.is c.loop-at.invariant.of in
    let step = ap (observers_from c.args.edges.now) c.in-Some.is ∙ observers_step c.args.edges.now c.in-Some.edge c.args.from
    c.observer_and_next-observer.result.0 c.observer_and_next-observer.result.1 c.observer_and_next-observer.ensures.next
    (record { subject = has; observer = c.observer_and_next-observer.ensures.observer }) in
    let pair = c.loop-at.invariant.ahead c.observer_and_next-observer.result.0
    (subst (λ (xs : List ℕ). Among c.observer_and_next-observer.result.0 xs) (sym step) (inl refl)) in
    let same : length c.loop-at.nodes ≡ length c.args.nodes.now = let long = c.loop-at.auto.nodes in omega arith in
    let plain = carrying_none c.loop-at.carried c.loop-at.wave (none_carried c.loop-at.carried c.loop-at.at
    c.in-Some.edge (λ o. c.args.carries ≡ true) c.loop-at.invariant.carried c.in-Some.is) in
    let after : WaveView = carrying c.tell_one-carried.result c.tell_one-carried.new.wave in
    record {
      of = subject_next v c.in-Some.edge c.args.from c.observer_and_next-observer.result.1
          c.observer_and_next-observer.ensures.next has;
      ahead = λ o a. c.loop-at.invariant.ahead o (subst (λ (xs : List ℕ). Among o xs) (sym step) (inr a));
      carried = last_alone c.tell_one-carried.result c.ends_walk-is_last.result c.args.carries
          c.observer_and_next-observer.result.1 c.tell_one-carried.ensures.carried c.ends_walk-is_last.ensures;
      first = c.tell_one-carried.ensures.first;
      marked = c.tell_one-carried.ensures.marked;
      puts = puts_then c.args.wave.now c.loop-at.wave after (λ o. IsPair v c.args.from o) (λ o. o ≡ observer)
          (λ o is. subst (λ (z : ℕ). IsPair v c.args.from z) (sym is) pair)
          (subst (λ (w : WaveView). Puts c.args.wave.now w (λ o. IsPair v c.args.from o)) plain c.loop-at.invariant.puts)
          c.tell_one-carried.ensures.puts;
      stays = λ first o d. c.tell_one-carried.ensures.stays first o
          (subst (λ (w : WaveView). IsDone v first c.loop-at.nodes w c.loop-at.noticed.items o) plain
          (c.loop-at.invariant.stays first o d));
      spreads = λ sources first noted s told.
          let so_far = c.loop-at.invariant.spreads sources first noted s told in
          let spread = subst (λ (w : WaveView). Spreads v sources first noted
          (λ x o. (x ≡ c.args.from) × Among o (observers_from v c.loop-at.at)) c.loop-at.nodes w c.loop-at.noticed.items) plain
          so_far.0 in
          let more = c.tell_one-carried.ensures.spreads sources first noted c.args.from (observers_from v c.loop-at.at) spread
          (told observer pair) in
          let done : (o : ℕ) → Among o (observers_from v c.loop-at.at)
          → IsDone v first c.tell_one-carried.new.nodes after c.tell_one-carried.new.noticed.items o ⊎ Among o rest =
          λ o a. elim (subst (λ (xs : List ℕ). Among o xs) step a) [
            | inl is ↦ inl (subst (λ (z : ℕ). IsDone v first c.tell_one-carried.new.nodes after c.tell_one-carried.new.noticed.items z)
                (sym is) more.1)
            | inr later ↦ inr later
          ] in (
            spreads_as v sources first noted (λ x o. (x ≡ c.args.from) × Among o (observers_from v c.loop-at.at))
                (λ x o. (x ≡ c.args.from) × Among o rest) c.tell_one-carried.new.nodes after c.tell_one-carried.new.noticed.items
                (λ x o pair p. elim (done o p.1) [ inl is ↦ inl is | inr later ↦ inr (p.0, later) ]) more.0,
            λ o pair. elim (so_far.1 o pair) [
              | inl is ↦ inl (c.tell_one-carried.ensures.stays first o
                  (subst (λ (w : WaveView). IsDone v first c.loop-at.nodes w c.loop-at.noticed.items o) plain is))
              | inr a ↦ done o a
            ],
          );
      noticed = subst (λ (n : ℕ). AreNoticed c.tell_one-carried.new.noticed.items n) same c.tell_one-carried.ensures.noticed;
      capacity = let a = c.loop-at.invariant.capacity in let b = c.tell_one-carried.ensures.capacity in omega arith;
    }

pub returns-clause-spreads : goal.returns-clause-spreads
returns-clause-spreads c = λ sources first noted s told.
    let all = c.loop-at.invariant.spreads sources first noted s told in
    let none : (o : ℕ) → Among o (observers_from c.args.edges.now c.loop-at.at) → ⊥ =
    λ o a. observers_none c.args.edges.now o
    (subst (λ (f : Option ℕ). Among o (observers_from c.args.edges.now f)) c.in_default.is a) in (
      spreads_as c.args.edges.now sources first noted
          (λ x o. (x ≡ c.args.from) × Among o (observers_from c.args.edges.now c.loop-at.at)) (λ x o. ⊥) c.loop-at.nodes
          (carrying c.loop-at.carried c.loop-at.wave) c.loop-at.noticed.items (λ x o pair p. absurd (none o p.1)) all.0,
      λ o pair. elim (all.1 o pair) [ inl is ↦ is | inr a ↦ absurd (none o a) ],
    )

pub returns-clause-carried : goal.returns-clause-carried
returns-clause-carried c = if_carried c.loop-at.carried c.loop-at.invariant.carried
  where
    if_carried : (carried : Option ℕ) → IfSome carried (λ o. (c.args.carries ≡ true) × (c.loop-at.at ≡ None))
        → IfSome carried (λ o. c.args.carries ≡ true)
    if_carried None only = only
    if_carried (Some node) only = only.0
