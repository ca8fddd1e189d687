-- Rounds worked by hand.
use Rattle.std.specs.Prelude.{◌≡◌, ℕ, ◌^◌, ◌-◌, zero, suc, List, [], ◌∷◌, map, Some, None}
use Rattle.watch_rounds.specs.declared.notice.Notice.TheVariants.{Due, OverFirst, OverAgain}
use Rattle.watch_rounds.specs.declared.picker.Order.{Order}
use Rattle.watch_rounds.specs.declared.picker.Order.TheVariants.{First, Last, Seed}
use Rattle.watch_rounds.specs.Order.{order_at, order_after}
use Rattle.watch_rounds.specs.Round.{Round, no_round, begun, grown, with_name, gone, notice_of, tally_at, watcher_at, with_notice, with_run, runs_left}

-- the positions that an order chooses, one after another, among so many each time
abbrev pub choices : Order → List ℕ → List ℕ
choices order [] = []
choices order (due ∷ dues) = order_at order due ∷ choices (order_after order due) dues

-- the generator's picks by Python's arithmetic; a pick is made among one, too
pub record ArePicks : Type 0 where
  pub first : choices First (4 ∷ 1 ∷ 3 ∷ []) ≡ 0 ∷ 0 ∷ 0 ∷ []
  pub last : choices Last (4 ∷ 1 ∷ 3 ∷ []) ≡ 3 ∷ 0 ∷ 2 ∷ []
  pub zero_seed : choices (Seed 0) (1 ∷ 2 ∷ 3 ∷ 5 ∷ 5 ∷ []) ≡ 0 ∷ 0 ∷ 1 ∷ 1 ∷ 0 ∷ []
  pub one : choices (Seed 1) (1 ∷ 2 ∷ 3 ∷ 5 ∷ 5 ∷ []) ≡ 0 ∷ 1 ∷ 0 ∷ 0 ∷ 4 ∷ []
  pub greatest : choices (Seed (2 ^ 64 - 1)) (1 ∷ 2 ∷ 3 ∷ 5 ∷ 5 ∷ []) ≡ 0 ∷ 1 ∷ 1 ∷ 2 ∷ 4 ∷ []

-- the watchers that are due
abbrev pub who : Round → List ℕ
who round = map (λ one. one.watcher) round.due

-- watcher 7 of name 1, watcher 2 of name 0 and watcher 7 again are told
abbrev pub two_told : Round
two_told = with_notice 7 1 (with_notice 2 0 (with_notice 7 1 (no_round 2)))

-- the due stand by creation, each once; a run takes its watcher out, and a notice brings it back
pub record AreDueByCreation : Type 0 where
  pub told : who two_told ≡ 2 ∷ 7 ∷ []
  pub ran : who (with_run 1 two_told) ≡ 2 ∷ []
  pub chosen : watcher_at 1 two_told ≡ Some 7
  pub past : watcher_at 2 two_told ≡ None
  pub nobody : with_run 2 two_told ≡ two_told
  pub again : who (with_notice 7 1 (with_run 1 two_told)) ≡ 2 ∷ 7 ∷ []
  pub dropped : who (gone 2 two_told) ≡ 7 ∷ []
  pub others : gone 5 two_told ≡ two_told

-- a watcher of name 0 is told and runs, so often
abbrev pub after_runs : ℕ → ℕ → Round → Round
after_runs watcher zero round = round
after_runs watcher (suc n) round = after_runs watcher n (with_run 0 (with_notice watcher 0 round))

abbrev pub eight_runs : Round
eight_runs = after_runs 3 8 (no_round 2)

-- A name runs eight times, whichever watcher has it. The next notice is the first that finds it over, each later one is
-- another; neither makes anyone due. Another name has its own runs, and the next round counts anew.
pub record AreEightRuns : Type 0 where
  pub seven : notice_of (tally_at (after_runs 3 7 (no_round 2)) 0) ≡ Due
  pub eight : notice_of (tally_at eight_runs 0) ≡ OverFirst
  pub namesake : notice_of (tally_at (after_runs 5 4 (after_runs 3 4 (no_round 2))) 0) ≡ OverFirst
  pub none_due : who (with_notice 3 0 eight_runs) ≡ []
  pub again : notice_of (tally_at (with_notice 3 0 eight_runs) 0) ≡ OverAgain
  pub same : with_notice 3 0 (with_notice 3 0 eight_runs) ≡ with_notice 3 0 eight_runs
  pub other : notice_of (tally_at (with_notice 3 0 eight_runs) 1) ≡ Due
  pub left : runs_left eight_runs ≡ 8
  pub next_round : begun (record { round = with_notice 4 1 eight_runs; nodes = 9; names = 2 })
      ≡ record { round = no_round 2; nodes = 9; names = 2 }
  pub kept : (grown 3 5 (record { round = eight_runs; nodes = 9; names = 2 })).nodes ≡ 9
  pub one_more : runs_left (grown 3 5 (record { round = eight_runs; nodes = 9; names = 2 })).round ≡ 16
  pub behind : notice_of (tally_at (with_name eight_runs) 2) ≡ Due
  pub before : notice_of (tally_at (with_name eight_runs) 0) ≡ OverFirst
