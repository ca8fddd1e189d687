-- The moments of a session: the commands that are done in its rounds, at the top and in the actions of watchers, in order.
use Rattle.std.specs.Prelude.{◌≡◌, ℕ, zero, suc, Bool, List, [], ◌∷◌, ◌++◌}
use Rattle.desk_terms.specs.Reading.{Calc}
use Rattle.session_commands.specs.declared.command.Command.{Command}
use Rattle.watch_rounds.specs.declared.rounds.DueWatcher.{DueWatcher}
use Rattle.watch_rounds.specs.Round.{watcher_at}
use Rattle.session_model.specs.Standing.{Standing}
use Rattle.session_model.specs.Turn.{turn}
use Rattle.session_model.specs.Course.{Running, Meaning, taken, heard, course_of, chosen, begun, action_of, run, most_runs, opened, round_of}
use Rattle.session_model.specs.Rounds.{transcript, calls_of}

-- a command, the session in which it is done, and the lines that its notices write
pub record Moment : Type 0 where
  pub standing : Standing
  pub command : Command
  pub over : List ℕ

abbrev pub moment_of : {P : Type 0} → Meaning P → Running P → Command → Moment
moment_of m r c = record {
  standing = r.standing;
  command = c;
  over = (heard (taken (turn m.calc r.standing c) r).next).lines;
}

unfoldable pub moments_of_all : {P : Type 0} → Meaning P → List Command → Running P → List Moment
moments_of_all m [] r = []
moments_of_all m (command ∷ commands) r = moment_of m r command ∷ moments_of_all m commands (course_of m r command).next

-- those of the run that comes next
abbrev pub moments_of_run : {P : Type 0} → Meaning P → Running P → List Moment
moments_of_run m r = moments_of_all m (action_of r.standing (watcher_at (chosen m r) r.round)) (begun m r)

abbrev pub none_unless_due : {A : Type 0} → List DueWatcher → List A → List A
none_unless_due [] items = []
none_unless_due (entry ∷ due) items = items

-- those of at most n runs
unfoldable pub moments_of_runs : {P : Type 0} → Meaning P → ℕ → Running P → List Moment
moments_of_runs m zero r = []
moments_of_runs m (suc n) r = none_unless_due r.round.due (moments_of_run m r ++ moments_of_runs m n (run m r).next)

unfoldable pub moments_of_round : {P : Type 0} → Meaning P → Running P → Command → List Moment
moments_of_round m r c = moment_of m (opened r) c ∷ moments_of_runs m (most_runs r) (course_of m (opened r) c).next

-- those of the rounds of commands
unfoldable pub moments : {P : Type 0} → Meaning P → Running P → List Command → List Moment
moments m r [] = []
moments m r (command ∷ commands) = moments_of_round m r command ++ moments m (round_of m r command).next commands

-- the lines of moments: of each its own, then those of its notices
unfoldable pub lines_at : Calc → List Moment → List ℕ
lines_at calc [] = []
lines_at calc (moment ∷ moments) = ((turn calc moment.standing moment.command).lines ++ moment.over) ++ lines_at calc moments

-- their computations
unfoldable pub calls_at : Calc → List Moment → List (ℕ × Bool)
calls_at calc [] = []
calls_at calc (moment ∷ moments) = (turn calc moment.standing moment.command).calls ++ calls_at calc moments

-- A TRANSCRIPT IS THE LINES OF ITS MOMENTS, and the computations of a session are theirs
pub record IsOfMoments (P : Type 0) (m : Meaning P) (r : Running P) (commands : List Command) : Type 0 where
  pub lines : transcript m r commands ≡ lines_at m.calc (moments m r commands)
  pub calls : calls_of m r commands ≡ calls_at m.calc (moments m r commands)

abbrev pub TranscriptsAreOfMoments : Type 0 → Type 0
TranscriptsAreOfMoments P = (m : Meaning P) (r : Running P) (commands : List Command) → IsOfMoments P m r commands
