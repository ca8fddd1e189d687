use Rattle.std.proofs.Common.{◌∙◌, ℕ, length, get_or, sym, ap, arith}
use Rattle.std.specs.Prelude.{◌==◌}
use Rattle.std.proofs.lemmas.List.{length-set}
use Rattle.watch_rounds.specs.Round.{Round, RoundsView, blank, one_more, runs_left}
use Rattle.watch_rounds.proofs.Stays.{room_of, picked_is, may_run, round_after, watcher_is, ran_is, nobody_ran}
use Rattle.watch_rounds.proofs.Tallies.{one_less, most_left, zero_of}
use Rattle.watch_rounds.proofs.rounds.Rounds.next_due.Goals as goal

pub returns-then-is_empty-clause-ran : goal.returns-then-is_empty-clause-ran
returns-then-is_empty-clause-ran g c =
    let round : Round = record { due = c.self.inside.due.items; tallies = c.self.inside.tallies.items } in
    let none = sym c.self.inside.due.ok.0 ∙ zero_of c.self.inside.due.len
    (sym c.is_empty.ensures ∙ c.if-is_empty.true) in
    rw (← c.self.view_is)
    (ap (λ (r : Round). let v : RoundsView = record { round = r; nodes = c.self.inside.nodes; names = c.self.inside.names } in v)
    (sym (nobody_ran round (g.P.Picker.at c.args.picker.now (length c.self.inside.due.items)) none)))

pub returns-then-is_empty-clause-most : goal.returns-then-is_empty-clause-most
unfolding runs_left
returns-then-is_empty-clause-most g c = rw (← c.self.view_is) (most_left c.self.inside.tallies.items)

pub overflow_cast-len : goal.overflow_cast-len
overflow_cast-len g c = let stands = c.self.invariant.0 in
    let most = room_of c.self.inside.due.items c.self.inside.tallies.items c.self.inside.nodes stands.round in
    let limit = stands.limit in let long = c.self.inside.due.ok.0 in let is = c.len.ensures in omega arith

pub invariant_of-self : goal.invariant_of-self
invariant_of-self g c =
    let stands = c.self.invariant.0 in
    let picked = picked_is (g.P.Picker.at c.args.picker.now) c.len.result
    (length c.self.inside.due.items) c.pick-at.result
    c.pick-at.ensures.at (c.len.ensures ∙ c.self.inside.due.ok.0)
    (ap (λ (k : ℕ). k == 0) c.len.ensures ∙ sym c.is_empty.ensures ∙ c.if-is_empty.false)
    (λ k some. g.met.P.Picker.below c.args.picker.now k some) in
    rw (c.in-Some.ensures.items, c.in-Some.ensures.capacity, c.count_run.ensures.room, c.count_run.ensures.counts) (
      record {
        round = rw (c.count_run.ensures.counted)
            (round_after c.self.inside.due.items c.self.inside.tallies.items c.self.inside.nodes
            c.pick-at.result c.in-Some.next picked.0 c.in-Some.ensures.value stands.round);
        tracked = c.count_run.ensures.tracks;
        limit = stands.limit;
      },
      c.self.invariant.1,
      rw (
        c.count_run.ensures.counted,
        length-set c.self.inside.tallies.items c.in-Some.next.name
            (one_more (get_or c.self.inside.tallies.items c.in-Some.next.name blank)),
      ) c.self.invariant.2,
      c.self.invariant.3,
      c.self.invariant.4,
    )

pub returns-clause-due : goal.returns-clause-due
returns-clause-due g c =
    let round : Round = record { due = c.self.inside.due.items; tallies = c.self.inside.tallies.items } in
    let picked = picked_is (g.P.Picker.at c.args.picker.now) c.len.result
    (length c.self.inside.due.items) c.pick-at.result
    c.pick-at.ensures.at (c.len.ensures ∙ c.self.inside.due.ok.0)
    (ap (λ (k : ℕ). k == 0) c.len.ensures ∙ sym c.is_empty.ensures ∙ c.if-is_empty.false)
    (λ k some. g.met.P.Picker.below c.args.picker.now k some) in
    rw (← c.self.view_is, ← picked.1)
    (sym (watcher_is round c.pick-at.result c.in-Some.next picked.0 c.in-Some.ensures.value))

pub returns-clause-ran : goal.returns-clause-ran
returns-clause-ran g c =
    let round : Round = record { due = c.self.inside.due.items; tallies = c.self.inside.tallies.items } in
    let picked = picked_is (g.P.Picker.at c.args.picker.now) c.len.result
    (length c.self.inside.due.items) c.pick-at.result
    c.pick-at.ensures.at (c.len.ensures ∙ c.self.inside.due.ok.0)
    (ap (λ (k : ℕ). k == 0) c.len.ensures ∙ sym c.is_empty.ensures ∙ c.if-is_empty.false)
    (λ k some. g.met.P.Picker.below c.args.picker.now k some) in
    rw (c.in-Some.ensures.items, c.count_run.ensures.counted, ← c.self.view_is, ← picked.1)
    (ap (λ (r : Round). let v : RoundsView = record { round = r; nodes = c.self.inside.nodes; names = c.self.inside.names } in v)
    (sym (ran_is round c.pick-at.result c.in-Some.next picked.0 c.in-Some.ensures.value)))

pub returns-clause-left : goal.returns-clause-left
unfolding runs_left
returns-clause-left g c =
    let stands = c.self.invariant.0 in
    let picked = picked_is (g.P.Picker.at c.args.picker.now) c.len.result
    (length c.self.inside.due.items) c.pick-at.result
    c.pick-at.ensures.at (c.len.ensures ∙ c.self.inside.due.ok.0)
    (ap (λ (k : ℕ). k == 0) c.len.ensures ∙ sym c.is_empty.ensures ∙ c.if-is_empty.false)
    (λ k some. g.met.P.Picker.below c.args.picker.now k some) in
    let may = may_run c.self.inside.due.items c.self.inside.tallies.items c.self.inside.nodes c.pick-at.result
    c.in-Some.next
    picked.0 c.in-Some.ensures.value stands.round in
    rw (c.count_run.ensures.counted, ← c.self.view_is)
    (one_less c.self.inside.tallies.items c.self.inside.ran.items c.in-Some.next.name may.1 stands.tracked may.2)

pub returns-clause-most : goal.returns-clause-most
unfolding runs_left
returns-clause-most g c = rw (← c.self.view_is) (most_left c.self.inside.tallies.items)

pub returns-clause-round : goal.returns-clause-round
returns-clause-round g c =
    let stands = c.self.invariant.0 in
    let picked = picked_is (g.P.Picker.at c.args.picker.now) c.len.result
    (length c.self.inside.due.items) c.pick-at.result
    c.pick-at.ensures.at (c.len.ensures ∙ c.self.inside.due.ok.0)
    (ap (λ (k : ℕ). k == 0) c.len.ensures ∙ sym c.is_empty.ensures ∙ c.if-is_empty.false)
    (λ k some. g.met.P.Picker.below c.args.picker.now k some) in
    rw (c.in-Some.ensures.items, c.count_run.ensures.counted)
    (round_after c.self.inside.due.items c.self.inside.tallies.items
    c.self.inside.nodes c.pick-at.result c.in-Some.next picked.0 c.in-Some.ensures.value stands.round)
