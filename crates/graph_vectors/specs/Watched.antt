-- The rounds that the rows are played on.
use Rattle.std.specs.Prelude.{◌≡◌, ◌==◌, ℕ, Bool, not, if◌then◌else◌, length}
use Rattle.watch_rounds.specs.declared.rounds.DueWatcher.{DueWatcher}
use Rattle.graph_vectors.specs.declared.watched.Watched.{Watched}

-- as many names and watchers have room as it says
pub record HasRoom (w : Watched) : Type 0 where
  pub names : length w.rounds.round.tallies ≡ w.names
  pub watchers : w.rounds.nodes ≡ w.watchers

-- whether a due watcher is this one by this name, or another by another
abbrev pub is_apart : ℕ → ℕ → DueWatcher → Bool
is_apart watcher name one = if one.watcher == watcher then one.name == name else not (one.name == name)
