-- What holds of a session with watchers, also while a round runs in it.
use Rattle.std.specs.Prelude.{◌≡◌, ◌≤◌, ◌+◌, ℕ, Bool, true, false, List, [], length, All}
use Rattle.desk_model.specs.Market.{slot_at, is_watcher}
use Rattle.desk_model.specs.State.{State}
use Rattle.desk_model.specs.Told.{is_watching}
use Rattle.session_commands.specs.declared.command.Command.{Command}
use Rattle.session_commands.specs.declared.command.Command.TheVariants as command
use Rattle.watch_rounds.specs.Due.{AreAll}
use Rattle.watch_rounds.specs.declared.rounds.DueWatcher.{DueWatcher}
use Rattle.session_model.specs.Standing.{Standing, name_of, IsKnown}
use Rattle.session_model.specs.Course.{Running}

-- each command of each action is of the session's names and actions
abbrev pub AreKnown : Standing → Type 0
AreKnown p = All (λ commands. All (IsKnown p) commands) p.actions

abbrev pub IsLive : Standing → ℕ → Type 0
IsLive p w = is_watcher (slot_at p.state.market w) ≡ true

-- a due watcher is live, and was told by its name
abbrev pub IsDueOf : Standing → DueWatcher → Type 0
IsDueOf p entry = IsLive p entry.watcher × (entry.name ≡ name_of p entry.watcher)

-- Each name is counted, each object has room, and so has one more as long as the session is not stopped; who is due is a live
-- watcher, and the actions are of the session's names.
pub record Fits (P : Type 0) (r : Running P) (nodes : ℕ) : Type 0 where
  pub counted : length r.round.tallies ≡ length r.standing.names
  pub room : length r.standing.of_object ≤ nodes
  pub spare : r.standing.stopped ≡ false → length r.standing.of_object + 1 ≤ nodes
  pub due : AreAll (IsDueOf r.standing) r.round.due
  pub known : AreKnown r.standing

-- each due watcher has a registration
abbrev pub AreWatching : State → List DueWatcher → Type 0
AreWatching state due = AreAll (λ entry. is_watching state entry.watcher ≡ true) due

-- what is known of the due of a session that says that they are settled
abbrev pub IsSettled : Bool → State → List DueWatcher → Type 0
IsSettled settled state due = settled ≡ true → AreWatching state due

-- what is known of the notices of a session that says that they are heard: none waits to be handed out
abbrev pub IsHeard : Bool → State → Type 0
IsHeard heard state = heard ≡ true → state.noticed ≡ []

-- a command that may leave a watcher without a registration
abbrev pub may_idle : Command → Bool
may_idle (command.Unregister w o) = true
may_idle (command.Drop o) = true
may_idle other = false
