-- The calls leave as much room as there was.
use Rattle.std.proofs.Common.{◌≡◌, ◌∙◌, ℕ, true, length, refl, ap, Option, Some, None}
use Rattle.std.specs.Prelude.{slice_get}
use Rattle.std.proofs.lemmas.List.{length-set}
use Rattle.watch_rounds.specs.declared.rounds.DueWatcher.{DueWatcher}
use Rattle.watch_rounds.specs.declared.notice.Notice.{Notice}
use Rattle.watch_rounds.specs.declared.notice.Notice.TheVariants as notices
use Rattle.watch_rounds.specs.declared.picker.Order.{Order}
use Rattle.watch_rounds.specs.Round.{Round, RoundsView, one_more, tally_at, notice_of, with_notice, with_notice_as, run_of, with_run}
use Rattle.graph_vectors.specs.declared.watched.Watched.{Watched}
use Rattle.graph_vectors.specs.Watched.{HasRoom}

noticed_length : (watcher name : ℕ) (round : Round)
    → length (with_notice watcher name round).tallies ≡ length round.tallies
unfolding with_notice
noticed_length watcher name round = by_notice (notice_of (tally_at round name))
  where
    by_notice : (notice : Notice)
        → length (with_notice_as notice watcher name round).tallies ≡ length round.tallies
    by_notice notices.Due = refl
    by_notice notices.OverFirst = length-set round.tallies name (record (tally_at round name) { over = true })
    by_notice notices.OverAgain = refl

ran_length : (at : ℕ) (round : Round) → length (with_run at round).tallies ≡ length round.tallies
unfolding with_run
ran_length at round = by_found (slice_get round.due at)
  where
    by_found : (found : Option DueWatcher) → length (run_of found at round).tallies ≡ length round.tallies
    by_found None = refl
    by_found (Some entry) = length-set round.tallies entry.name (one_more (tally_at round entry.name))

pub room_told : (w : Watched) (rounds : RoundsView) (watcher name : ℕ) → HasRoom w
    → rounds ≡ record w.rounds { round = with_notice watcher name w.rounds.round }
    → HasRoom (record w { rounds = rounds })
room_told w rounds watcher name room is = record {
  names = ap (λ (v : RoundsView). length v.round.tallies) is ∙ noticed_length watcher name w.rounds.round
      ∙ room.names;
  watchers = ap (λ (v : RoundsView). v.nodes) is ∙ room.watchers;
}

pub room_ran : (w : Watched) (rounds : RoundsView) (order : Order) (at : ℕ) → HasRoom w
    → rounds ≡ record w.rounds { round = with_run at w.rounds.round }
    → HasRoom (record w { rounds = rounds; order = order })
room_ran w rounds order at room is = record {
  names = ap (λ (v : RoundsView). length v.round.tallies) is ∙ ran_length at w.rounds.round ∙ room.names;
  watchers = ap (λ (v : RoundsView). v.nodes) is ∙ room.watchers;
}
