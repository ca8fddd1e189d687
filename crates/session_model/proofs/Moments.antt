-- A transcript is the lines of its moments.
use Rattle.std.proofs.Common.{◌≡◌, ℕ, zero, suc, Bool, List, [], ◌∷◌, ◌++◌, refl, sym, ap, ◌∙◌}
use Rattle.std.proofs.lemmas.List.{append_assoc, append-nil}
use Rattle.desk_terms.specs.Reading.{Calc}
use Rattle.session_commands.specs.declared.command.Command.{Command}
use Rattle.watch_rounds.specs.declared.rounds.DueWatcher.{DueWatcher}
use Rattle.watch_rounds.specs.Round.{watcher_at}
use Rattle.session_model.specs.Turn.{turn}
use Rattle.session_model.specs.Course.{Running, Meaning, Course, quiet, taken, notice, noticed, heard, all_handed_out, and_then, course_of, course_of_all, chosen, begun, action_of, run, unless_none, runs_by, most_runs, opened, round_of}
use Rattle.session_model.specs.Rounds.{rounds, lines_of, calls_in}
use Rattle.session_model.specs.Moments.{Moment, moment_of, moments_of_all, moments_of_run, none_unless_due, moments_of_runs, moments_of_round, moments, lines_at, calls_at, IsOfMoments}

-- a course writes the lines of these moments, and makes their computations
record IsOf (P : Type 0) (calc : Calc) (course : Course P) (xs : List Moment) : Type 0 where
  pub lines : course.lines ≡ lines_at calc xs
  pub calls : course.calls ≡ calls_at calc xs

lines_both : (calc : Calc) (xs ys : List Moment) → lines_at calc xs ++ lines_at calc ys ≡ lines_at calc (xs ++ ys)
unfolding lines_at
lines_both calc [] ys = refl
lines_both calc (x ∷ xs) ys =
    append_assoc ((turn calc x.standing x.command).lines ++ x.over) (lines_at calc xs) (lines_at calc ys)
    ∙ ap (λ (l : List ℕ). ((turn calc x.standing x.command).lines ++ x.over) ++ l) (lines_both calc xs ys)

calls_both : (calc : Calc) (xs ys : List Moment) → calls_at calc xs ++ calls_at calc ys ≡ calls_at calc (xs ++ ys)
unfolding calls_at
calls_both calc [] ys = refl
calls_both calc (x ∷ xs) ys =
    append_assoc (turn calc x.standing x.command).calls (calls_at calc xs) (calls_at calc ys)
    ∙ ap (λ (l : List (ℕ × Bool)). (turn calc x.standing x.command).calls ++ l) (calls_both calc xs ys)

none_of : {P : Type 0} → (calc : Calc) (r : Running P) → IsOf P calc (quiet r) []
unfolding lines_at calls_at
none_of calc r = record { lines = refl; calls = refl }

both_of : {P : Type 0} → (calc : Calc) (course : Course P) (rest : Running P → Course P) (xs ys : List Moment)
    → IsOf P calc course xs → IsOf P calc (rest course.next) ys → IsOf P calc (and_then course rest) (xs ++ ys)
unfolding and_then
both_of calc course rest xs ys first second = record {
  lines = ap (λ (l : List ℕ). l ++ (rest course.next).lines) first.lines ∙ ap (λ (l : List ℕ). lines_at calc xs ++ l) second.lines ∙ lines_both calc xs ys;
  calls = ap (λ (l : List (ℕ × Bool)). l ++ (rest course.next).calls) first.calls ∙ ap (λ (l : List (ℕ × Bool)). calls_at calc xs ++ l) second.calls ∙ calls_both calc xs ys;
}

-- notices compute nothing
noticed_calls : {P : Type 0} → (ws : List ℕ) (r : Running P) → (noticed ws r).calls ≡ []
unfolding noticed and_then
noticed_calls [] r = refl
noticed_calls (w ∷ ws) r = noticed_calls ws (notice w r).next

pub heard_calls : {P : Type 0} → (r : Running P) → (heard r).calls ≡ []
unfolding heard
heard_calls r = noticed_calls r.standing.state.noticed (record r { standing = all_handed_out r.standing })

done_of : {P : Type 0} → (m : Meaning P) (r : Running P) (c : Command) → IsOf P m.calc (course_of m r c) (moment_of m r c ∷ [])
unfolding course_of and_then lines_at calls_at
done_of m r c = record {
  lines = sym (append-nil ((turn m.calc r.standing c).lines ++ (heard (taken (turn m.calc r.standing c) r).next).lines));
  calls = ap (λ (l : List (ℕ × Bool)). (turn m.calc r.standing c).calls ++ l) (heard_calls (taken (turn m.calc r.standing c) r).next);
}

all_of : {P : Type 0} → (m : Meaning P) (commands : List Command) (r : Running P)
    → IsOf P m.calc (course_of_all m commands r) (moments_of_all m commands r)
unfolding course_of_all moments_of_all
all_of m [] r = none_of m.calc r
all_of m (c ∷ commands) r =
    both_of m.calc (course_of m r c) (course_of_all m commands) (moment_of m r c ∷ []) (moments_of_all m commands (course_of m r c).next)
    (done_of m r c) (all_of m commands (course_of m r c).next)

run_of : {P : Type 0} → (m : Meaning P) (r : Running P) → IsOf P m.calc (run m r) (moments_of_run m r)
unfolding run
run_of m r = all_of m (action_of r.standing (watcher_at (chosen m r) r.round)) (begun m r)

due_of : {P : Type 0} → (calc : Calc) (due : List DueWatcher) (r : Running P) (course : Course P) (xs : List Moment)
    → IsOf P calc course xs → IsOf P calc (unless_none due r course) (none_unless_due due xs)
due_of calc [] r course xs of = none_of calc r
due_of calc (entry ∷ due) r course xs of = of

runs_of : {P : Type 0} → (m : Meaning P) (n : ℕ) (r : Running P) → IsOf P m.calc (runs_by m n r) (moments_of_runs m n r)
unfolding runs_by moments_of_runs
runs_of m zero r = none_of m.calc r
runs_of m (suc n) r =
    due_of m.calc r.round.due r (and_then (run m r) (runs_by m n)) (moments_of_run m r ++ moments_of_runs m n (run m r).next)
    (both_of m.calc (run m r) (runs_by m n) (moments_of_run m r) (moments_of_runs m n (run m r).next) (run_of m r) (runs_of m n (run m r).next))

round_is_of : {P : Type 0} → (m : Meaning P) (r : Running P) (c : Command) → IsOf P m.calc (round_of m r c) (moments_of_round m r c)
unfolding round_of moments_of_round
round_is_of m r c =
    both_of m.calc (course_of m (opened r) c) (runs_by m (most_runs r)) (moment_of m (opened r) c ∷ [])
    (moments_of_runs m (most_runs r) (course_of m (opened r) c).next) (done_of m (opened r) c) (runs_of m (most_runs r) (course_of m (opened r) c).next)

pub transcript_of : {P : Type 0} → (m : Meaning P) (r : Running P) (commands : List Command) → IsOfMoments P m r commands
unfolding rounds lines_of calls_in moments lines_at calls_at
transcript_of m r [] = record { lines = refl; calls = refl }
transcript_of m r (c ∷ commands) =
    let first = round_is_of m r c in
    let rest = transcript_of m (round_of m r c).next commands in
    let more = moments m (round_of m r c).next commands in
    record {
      lines = ap (λ (l : List ℕ). l ++ lines_of (rounds m (round_of m r c).next commands)) first.lines
          ∙ ap (λ (l : List ℕ). lines_at m.calc (moments_of_round m r c) ++ l) rest.lines ∙ lines_both m.calc (moments_of_round m r c) more;
      calls = ap (λ (l : List (ℕ × Bool)). l ++ calls_in (rounds m (round_of m r c).next commands)) first.calls
          ∙ ap (λ (l : List (ℕ × Bool)). calls_at m.calc (moments_of_round m r c) ++ l) rest.calls ∙ calls_both m.calc (moments_of_round m r c) more;
    }
