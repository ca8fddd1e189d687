use Rattle.std.proofs.Common.{slice_set, ap}
use Rattle.watch_rounds.specs.declared.tally.Tally.{Tally}
use Rattle.watch_rounds.specs.Round.{one_more}
use Rattle.watch_rounds.proofs.Stays.{item_is}
use Rattle.watch_rounds.proofs.Tallies.{counted_first, counted_again}
use Rattle.watch_rounds.proofs.rounds.count_run.Goals as goal
use Rattle.watch_rounds.proofs.rounds.count_run.Goals.{then-tally-eq0, else-tally-eq0}

pub returns-clause-counted : goal.returns-clause-counted
returns-clause-counted c =
    let is = item_is c.args.tallies.now.items c.place.result c.args.name c.index-tally.result.now
    c.index-tally.ensures c.place.ensures c.requires.named in
    rw (c.place-2.ensures) (ap (λ (t : Tally). slice_set c.args.tallies.now.items c.args.name (one_more t)) is)

pub returns-clause-tracks : goal.returns-clause-tracks
returns-clause-tracks c =
    let is = item_is c.args.tallies.now.items c.place.result c.args.name c.index-tally.result.now
    c.index-tally.ensures c.place.ensures c.requires.named in
    elim c.if-tally-eq0.branch [
      | then-tally-eq0 w ↦ rw (c.place-2.ensures, w.ran-is, w.push_reserved.ensures.items)
          (counted_first c.args.tallies.now.items c.args.ran.now.items c.args.name c.index-tally.result.now
          c.requires.named c.requires.tracks is w.if-tally-eq0.true)
      | else-tally-eq0 w ↦ rw (c.place-2.ensures, w.ran-is)
          (counted_again c.args.tallies.now.items c.args.ran.now.items c.args.name c.index-tally.result.now
          c.requires.named c.requires.tracks is w.if-tally-eq0.false)
    ]
