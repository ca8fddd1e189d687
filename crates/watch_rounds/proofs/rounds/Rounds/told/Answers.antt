use Rattle.std.proofs.Common.{◌<◌, ◌∙◌, true, length, sym, ap, subst, arith, slice_set}
use Rattle.std.proofs.lemmas.List.{length-set}
use Rattle.watch_rounds.specs.declared.tally.Tally.{Tally}
use Rattle.watch_rounds.specs.Due.{IsOnly}
use Rattle.watch_rounds.specs.Round.{Round, RoundsView, IsRound, runs_left}
use Rattle.watch_rounds.proofs.Stays.{view_of, item_is, room_with, round_with, round_over, told_due, told_again, told_first}
use Rattle.watch_rounds.proofs.Tallies.{over_tracked, left_noticed}
use Rattle.watch_rounds.proofs.rounds.Rounds.told.Goals as goal

pub put_in-requires-clause-room : goal.put_in-requires-clause-room
put_in-requires-clause-room c =
    let low = subst (λ (v : RoundsView). c.args.watcher < v.nodes) (sym c.self.view_is) c.requires.low in
    let stands = c.self.invariant.0 in
    let most = room_with c.self.inside.due.items c.self.inside.tallies.items c.self.inside.nodes
    (record { watcher = c.args.watcher; name = c.args.name }) low stands.round in
    let room = c.self.invariant.1 in omega arith

pub invariant_of-self : goal.invariant_of-self
invariant_of-self c =
    let low = subst (λ (v : RoundsView). c.args.name < length v.round.tallies) (sym c.self.view_is) c.requires.named in
    let below = subst (λ (v : RoundsView). c.args.watcher < v.nodes) (sym c.self.view_is) c.requires.low in
    let only = subst (λ (v : RoundsView). IsOnly c.args.watcher c.args.name v.round.due)
    (sym c.self.view_is) c.requires.only in
    let is = item_is c.self.inside.tallies.items c.place.result c.args.name c.index-tally.result.now
    c.index-tally.ensures c.place.ensures low in
    let left = subst (λ (t : Tally). t.runs < 8) is c.if-tally-lt-MOST_RUNS.true in
    let stands = c.self.invariant.0 in
    let room = c.put_in.ensures.room in let was = c.self.invariant.1 in
    rw (c.put_in.ensures.items) (
      record {
        round = round_with c.self.inside.due.items c.self.inside.tallies.items c.self.inside.nodes
            (record { watcher = c.args.watcher; name = c.args.name }) only (below, low, left) stands.round;
        tracked = stands.tracked;
        limit = stands.limit;
      },
      omega arith,
      c.self.invariant.2,
      c.self.invariant.3,
      c.self.invariant.4,
    )

pub returns-then-tally-lt-MOST_RUNS-clause-told : goal.returns-then-tally-lt-MOST_RUNS-clause-told
returns-then-tally-lt-MOST_RUNS-clause-told c =
    let low = subst (λ (v : RoundsView). c.args.name < length v.round.tallies) (sym c.self.view_is) c.requires.named in
    let is = item_is c.self.inside.tallies.items c.place.result c.args.name c.index-tally.result.now
    c.index-tally.ensures c.place.ensures low in
    let round : Round = record { due = c.self.inside.due.items; tallies = c.self.inside.tallies.items } in
    rw (c.put_in.ensures.items, ← c.self.view_is)
    (ap (λ (r : Round). let v : RoundsView = record { round = r; nodes = c.self.inside.nodes; names = c.self.inside.names } in v)
    (sym (told_due c.args.watcher c.args.name round c.index-tally.result.now is c.if-tally-lt-MOST_RUNS.true)))

pub returns-then-tally-clause-told : goal.returns-then-tally-clause-told
returns-then-tally-clause-told c =
    let low = subst (λ (v : RoundsView). c.args.name < length v.round.tallies) (sym c.self.view_is) c.requires.named in
    let is = item_is c.self.inside.tallies.items c.place.result c.args.name c.index-tally.result.now
    c.index-tally.ensures c.place.ensures low in
    let round : Round = record { due = c.self.inside.due.items; tallies = c.self.inside.tallies.items } in
    rw (← c.self.view_is)
    (ap (λ (r : Round). let v : RoundsView = record { round = r; nodes = c.self.inside.nodes; names = c.self.inside.names } in v)
    (sym (told_again c.args.watcher c.args.name round c.index-tally.result.now is c.if-tally-lt-MOST_RUNS.false
    c.if-tally.true)))

pub invariant_of-self-2 : goal.invariant_of-self-2
invariant_of-self-2 c =
    let low = subst (λ (v : RoundsView). c.args.name < length v.round.tallies) (sym c.self.view_is) c.requires.named in
    let is = item_is c.self.inside.tallies.items c.place.result c.args.name c.index-tally.result.now
    c.index-tally.ensures c.place.ensures low in
    let stands = c.self.invariant.0 in
    rw (
      c.place-2.ensures,
      length-set c.self.inside.tallies.items c.args.name
          (record c.index-tally.result.now { over = true }),
    ) (
      record {
        round = subst
            (λ (t : Tally). IsRound
            (view_of c.self.inside.due.items (slice_set c.self.inside.tallies.items c.args.name
            (record t { over = true })) c.self.inside.nodes))
            (sym is) (round_over c.self.inside.due.items c.self.inside.tallies.items c.self.inside.nodes c.args.name
            low stands.round);
        tracked = over_tracked c.self.inside.tallies.items c.self.inside.ran.items c.args.name
            c.index-tally.result.now low stands.tracked is
            c.if-tally-lt-MOST_RUNS.false;
        limit = stands.limit;
      },
      c.self.invariant.1,
      c.self.invariant.2,
      c.self.invariant.3,
      c.self.invariant.4,
    )

pub returns-clause-told : goal.returns-clause-told
returns-clause-told c =
    let low = subst (λ (v : RoundsView). c.args.name < length v.round.tallies) (sym c.self.view_is) c.requires.named in
    let is = item_is c.self.inside.tallies.items c.place.result c.args.name c.index-tally.result.now
    c.index-tally.ensures c.place.ensures low in
    let round : Round = record { due = c.self.inside.due.items; tallies = c.self.inside.tallies.items } in
    rw (c.place-2.ensures, ← c.self.view_is)
    (ap (λ (r : Round). let v : RoundsView = record { round = r; nodes = c.self.inside.nodes; names = c.self.inside.names } in v)
    (sym (told_first c.args.watcher c.args.name round c.index-tally.result.now is c.if-tally-lt-MOST_RUNS.false
    c.if-tally.false)))

pub returns-then-tally-lt-MOST_RUNS-clause-left : goal.returns-then-tally-lt-MOST_RUNS-clause-left
returns-then-tally-lt-MOST_RUNS-clause-left c = ap (λ (v : RoundsView). runs_left v.round)
    (returns-then-tally-lt-MOST_RUNS-clause-told c)
    ∙ left_noticed c.args.watcher c.args.name c.args.self.now.round

pub returns-clause-left : goal.returns-clause-left
returns-clause-left c = ap (λ (v : RoundsView). runs_left v.round) (returns-clause-told c)
    ∙ left_noticed c.args.watcher c.args.name c.args.self.now.round
