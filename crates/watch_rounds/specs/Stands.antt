-- What holds of rounds between two calls.
use Rattle.std.specs.Prelude.{◌≡◌, ℕ, ◌+◌, ◌<◌, ◌^◌, ◌==◌, if◌then◌else◌, List, length, slice_index_or}
use Rattle.std.specs.List.{sum_by}
use Rattle.walks.specs.Walk.{Among}
use Rattle.watch_rounds.specs.declared.rounds.DueWatcher.{DueWatcher}
use Rattle.watch_rounds.specs.declared.tally.Tally.{Tally}
use Rattle.watch_rounds.specs.Round.{IsRoundOf, blank}

-- 1 where no run of the name began
abbrev pub unrun : Tally → ℕ
unrun tally = if tally.runs == 0 then 1 else 0

-- the names of which a run began are listed, each once: what is counted of each other name is nothing
pub record IsTracked (tallies : List Tally) (names : List ℕ) : Type 0 where
  pub within : (name : ℕ) → Among name names → name < length tallies
  pub listed : (name : ℕ) → (Among name names → ⊥) → slice_index_or tallies name blank ≡ blank
  pub room : length names + sum_by unrun tallies ≡ length tallies

-- the names of which a run began are known, and each number of a watcher fits 32 bits
pub record Stands (due : List DueWatcher) (tallies : List Tally) (names : List ℕ) (nodes : ℕ) : Type 0 where
  pub round : IsRoundOf (record { due = due; tallies = tallies }) nodes
  pub tracked : IsTracked tallies names
  pub limit : nodes < 2 ^ 32
