-- What happens in a round, and how often a name runs in it.
use Rattle.std.specs.Prelude.{ℕ, ◌+◌, ◌<◌, ◌≤◌, ◌==◌, if◌then◌else◌, List, [], ◌∷◌, length, slice_get, Option, Some, None}
use Rattle.watch_rounds.specs.declared.rounds.DueWatcher.{DueWatcher}
use Rattle.watch_rounds.specs.Due.{IsOnly}
use Rattle.watch_rounds.specs.Round.{Round, no_round, with_notice, with_run, gone}

-- a watcher of a name is told, the due watcher at a position runs, or a watcher is due no more
pub data Happening : Type 0 where
  Tell : ℕ → ℕ → Happening
  Start : ℕ → Happening
  Leave : ℕ → Happening

abbrev pub after : Happening → Round → Round
after (Tell watcher name) round = with_notice watcher name round
after (Start at) round = with_run at round
after (Leave watcher) round = gone watcher round

-- who is told has room, and so has the name, which no other due watcher has
abbrev pub MayHappen : ℕ → Happening → Round → Type 0
MayHappen nodes (Tell watcher name) round =
    (watcher < nodes) × (name < length round.tallies) × IsOnly watcher name round.due
MayHappen nodes (Start at) round = Unit {0}
MayHappen nodes (Leave watcher) round = Unit {0}

-- one after another
abbrev pub AreACourse : ℕ → List Happening → Round → Type 0
AreACourse nodes [] round = Unit {0}
AreACourse nodes (one ∷ later) round = MayHappen nodes one round × AreACourse nodes later (after one round)

-- 1 where it is the name's watcher
abbrev pub is_of : Option DueWatcher → ℕ → ℕ
is_of None name = 0
is_of (Some entry) name = if entry.name == name then 1 else 0

-- how many runs of a name begin
abbrev pub starts : Happening → ℕ → Round → ℕ
starts (Tell watcher told) name round = 0
starts (Start at) name round = is_of (slice_get round.due at) name
starts (Leave watcher) name round = 0

abbrev pub all_starts : List Happening → ℕ → Round → ℕ
all_starts [] name round = 0
all_starts (one ∷ later) name round = starts one name round + all_starts later name (after one round)

-- IN A ROUND at most eight runs of a name begin, whatever happens in it
abbrev pub AtMostEightRuns : Type 0
AtMostEightRuns = (nodes names name : ℕ) (course : List Happening) → AreACourse nodes course (no_round names)
    → all_starts course name (no_round names) ≤ 8
