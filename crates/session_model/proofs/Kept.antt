-- A round leaves the names.
use Rattle.std.proofs.Common.{◌≡◌, ℕ, zero, suc, List, [], ◌∷◌, refl, ◌∙◌}
use Rattle.session_commands.specs.declared.command.Command.{Command}
use Rattle.watch_rounds.specs.declared.rounds.DueWatcher.{DueWatcher}
use Rattle.watch_rounds.specs.Round.{watcher_at}
use Rattle.session_model.specs.Turn.{turn}
use Rattle.session_model.specs.Course.{Running, Meaning, Course, and_then, notice, noticed, heard, taken, all_handed_out, course_of, course_of_all, chosen, begun, action_of, run, unless_none, runs_by, most_runs, opened, round_of}
use Rattle.session_model.proofs.Given.{names_turn}

noticed_names : {P : Type 0} → (ws : List ℕ) (r : Running P) → (noticed ws r).next.standing.names ≡ r.standing.names
unfolding noticed and_then
noticed_names [] r = refl
noticed_names (w ∷ ws) r = noticed_names ws (notice w r).next

course_names : {P : Type 0} → (m : Meaning P) (r : Running P) (c : Command) → (course_of m r c).next.standing.names ≡ r.standing.names
unfolding course_of and_then heard
course_names m r c =
    noticed_names (turn m.calc r.standing c).next.state.noticed (record (taken (turn m.calc r.standing c) r).next { standing = all_handed_out (turn m.calc r.standing c).next })
    ∙ names_turn m.calc r.standing c

all_names : {P : Type 0} → (m : Meaning P) (commands : List Command) (r : Running P) → (course_of_all m commands r).next.standing.names ≡ r.standing.names
unfolding course_of_all and_then
all_names m [] r = refl
all_names m (c ∷ commands) r = all_names m commands (course_of m r c).next ∙ course_names m r c

run_names : {P : Type 0} → (m : Meaning P) (r : Running P) → (run m r).next.standing.names ≡ r.standing.names
unfolding run begun
run_names m r = all_names m (action_of r.standing (watcher_at (chosen m r) r.round)) (begun m r)

unless_names : {P : Type 0} → (due : List DueWatcher) (r : Running P) (course : Course P) → course.next.standing.names ≡ r.standing.names
    → (unless_none due r course).next.standing.names ≡ r.standing.names
unless_names [] r course is = refl
unless_names (entry ∷ due) r course is = is

runs_names : {P : Type 0} → (m : Meaning P) (n : ℕ) (r : Running P) → (runs_by m n r).next.standing.names ≡ r.standing.names
unfolding runs_by and_then
runs_names m zero r = refl
runs_names m (suc n) r = unless_names r.round.due r (and_then (run m r) (runs_by m n)) (runs_names m n (run m r).next ∙ run_names m r)

-- A ROUND LEAVES THE NAMES
pub round_names : {P : Type 0} → (m : Meaning P) (r : Running P) (c : Command) → (round_of m r c).next.standing.names ≡ r.standing.names
unfolding round_of and_then opened
round_names m r c = runs_names m (most_runs r) (course_of m (opened r) c).next ∙ course_names m (opened r) c
