-- The rounds of a session with watchers: a command, and the runs of the watchers that are due.
use Rattle.std.specs.Prelude.{ℕ, zero, suc, ◌*◌, Bool, List, [], ◌∷◌, ◌++◌, length, Option, Some, None, slice_index_or}
use Rattle.std.specs.List.{filter}
use Rattle.desk_terms.specs.Reading.{Calc}
use Rattle.desk_model.specs.State.{State}
use Rattle.desk_model.specs.Told.{is_watching}
use Rattle.session_commands.specs.declared.command.Command.{Command}
use Rattle.price_report.specs.Line.{over_line}
use Rattle.watch_rounds.specs.declared.rounds.DueWatcher.{DueWatcher}
use Rattle.watch_rounds.specs.declared.notice.Notice.{Notice}
use Rattle.watch_rounds.specs.declared.notice.Notice.TheVariants as notices
use Rattle.watch_rounds.specs.Round.{Round, no_round, notice_of, tally_at, with_notice, watcher_at, with_run}
use Rattle.session_model.specs.Standing.{Standing, name_of}
use Rattle.session_model.specs.Turn.{TurnOf, Turn, turn}

-- a session, the round that runs in it, and what picks the watchers to run
pub record Running (P : Type 0) : Type 0 where
  pub standing : Standing
  pub round : Round
  pub picker : P

-- what a bench computes, and what a picker means: the position that it chooses among so many, and what it is then
pub record Meaning (P : Type 0) : Type 0 where
  pub calc : Calc
  pub at : P → ℕ → ℕ
  pub after : P → ℕ → P

-- what commands of a session with watchers give
abbrev pub Course : Type 0 → Type 0
Course P = TurnOf (Running P)

abbrev pub quiet : {P : Type 0} → Running P → Course P
quiet r = record { lines = []; calls = []; next = r }

abbrev pub before : {P : Type 0} → List ℕ → List (ℕ × Bool) → Course P → Course P
before lines calls course = record { lines = lines ++ course.lines; calls = calls ++ course.calls; next = course.next }

-- one after the other: the only place that joins lines and computations
unfoldable pub and_then : {P : Type 0} → Course P → (Running P → Course P) → Course P
and_then course rest = before course.lines course.calls (rest course.next)

-- a watcher that has no registration left is not due
abbrev pub undue : State → Round → Round
undue state round = record round { due = filter (λ entry. is_watching state entry.watcher) round.due }

-- THE TURN OF A COMMAND in a round: a watcher that it drops, or leaves without a registration, is not due
abbrev pub taken : {P : Type 0} → Turn → Running P → Course P
taken turn r = record {
  lines = turn.lines;
  calls = turn.calls;
  next = record r { standing = turn.next; round = undue turn.next.state r.round };
}

abbrev pub over_lines : List (List ℕ) → ℕ → Notice → List ℕ
over_lines names name notices.Due = []
over_lines names name notices.OverFirst = over_line names name
over_lines names name notices.OverAgain = []

-- A NOTICE to a watcher: it is due, or, after 8 runs of its name in the round, the first such notice writes a line
abbrev pub notice : {P : Type 0} → ℕ → Running P → Course P
notice w r = record {
  lines = over_lines r.standing.names (name_of r.standing w) (notice_of (tally_at r.round (name_of r.standing w)));
  calls = [];
  next = record r { round = with_notice w (name_of r.standing w) r.round };
}

unfoldable pub noticed : {P : Type 0} → List ℕ → Running P → Course P
noticed [] r = quiet r
noticed (w ∷ ws) r = and_then (notice w r) (noticed ws)

-- no notice is left to be handed out
abbrev pub all_handed_out : Standing → Standing
all_handed_out p = record p { state = record p.state { noticed = [] } }

-- the notices to the watchers that were told, by creation
unfoldable pub heard : {P : Type 0} → Running P → Course P
heard r = noticed r.standing.state.noticed (record r { standing = all_handed_out r.standing })

-- A COMMAND, at the top or in an action: its turn, then its notices
unfoldable pub course_of : {P : Type 0} → Meaning P → Running P → Command → Course P
course_of m r c = and_then (taken (turn m.calc r.standing c) r) heard

unfoldable pub course_of_all : {P : Type 0} → Meaning P → List Command → Running P → Course P
course_of_all m [] r = quiet r
course_of_all m (command ∷ commands) r = and_then (course_of m r command) (course_of_all m commands)

-- the position among the due that is chosen
abbrev pub chosen : {P : Type 0} → Meaning P → Running P → ℕ
chosen m r = m.at r.picker (length r.round.due)

-- its run begins
unfoldable pub begun : {P : Type 0} → Meaning P → Running P → Running P
begun m r = record r { round = with_run (chosen m r) r.round; picker = m.after r.picker (length r.round.due) }

abbrev pub commands_of : List (List Command) → Option ℕ → List Command
commands_of actions None = []
commands_of actions (Some action) = slice_index_or actions action []

-- the commands of a watcher's action
abbrev pub action_of : Standing → Option ℕ → List Command
action_of p None = []
action_of p (Some w) = commands_of p.actions (slice_index_or p.watching (name_of p w) None)

-- ONE RUN: the commands of the chosen watcher's action, to the last
unfoldable pub run : {P : Type 0} → Meaning P → Running P → Course P
run m r = course_of_all m (action_of r.standing (watcher_at (chosen m r) r.round)) (begun m r)

abbrev pub unless_none : {P : Type 0} → List DueWatcher → Running P → Course P → Course P
unless_none [] r course = quiet r
unless_none (entry ∷ due) r course = course

-- at most n runs, one at a time, until no watcher is due
unfoldable pub runs_by : {P : Type 0} → Meaning P → ℕ → Running P → Course P
runs_by m zero r = quiet r
runs_by m (suc n) r = unless_none r.round.due r (and_then (run m r) (runs_by m n))

-- 8 runs of each name
abbrev pub most_runs : {P : Type 0} → Running P → ℕ
most_runs r = 8 * length r.standing.names

-- a round begins: nobody is due, no name has run, and a notice that is left is forgotten
unfoldable pub opened : {P : Type 0} → Running P → Running P
opened r = record r { standing = all_handed_out r.standing; round = no_round (length r.standing.names) }

-- THE ROUND of a command: its turn with its notices, and the runs of the watchers that are due
unfoldable pub round_of : {P : Type 0} → Meaning P → Running P → Command → Course P
round_of m r command = and_then (course_of m (opened r) command) (runs_by m (most_runs r))

-- a session with watchers begins
abbrev pub running : {P : Type 0} → P → Standing → Running P
running picker p = record { standing = p; round = no_round (length p.names); picker = picker }
