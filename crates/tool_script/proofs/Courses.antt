-- The course of commands: its lines, its computations and the session that it leaves are those of their rounds.
use Rattle.std.proofs.Common.{◌≡◌, ℕ, Bool, List, [], ◌∷◌, ◌++◌, Option, refl, ◌∙◌, ap, subst}
use Rattle.desk_terms.specs.Reading.{Calc}
use Rattle.session_commands.specs.declared.command.Command.{Command}
use Rattle.watch_rounds.specs.declared.picker.Order.{Order}
use Rattle.session_model.specs.Course.{Running, Course, before, and_then, round_of}
use Rattle.session_model.specs.Rounds.{rounds, lines_of, calls_in, transcript, calls_of}
use Rattle.session_rounds.specs.Goes.{Output, Does, Halts}
use Rattle.session_rounds.proofs.Going.{joined}
use Rattle.tool_script.specs.Scenario.{ordered, after}
use Rattle.tool_frame.specs.Calls.{Makes, Begins}
use Rattle.tool_script.specs.Course.{course_of, output}

abbrev Log : Type 0
Log = Option (List (ℕ × Bool))

module _ (calc : Calc) where
  pub course_lines : (commands : List Command) (r : Running Order)
      → (course_of calc commands r).lines ≡ transcript (ordered calc) r commands
  unfolding course_of and_then rounds lines_of
  course_lines [] r = refl
  course_lines (c ∷ commands) r =
      ap (λ (l : List ℕ). (round_of (ordered calc) r c).lines ++ l) (course_lines commands (round_of (ordered calc) r c).next)

  pub course_calls : (commands : List Command) (r : Running Order)
      → (course_of calc commands r).calls ≡ calls_of (ordered calc) r commands
  unfolding course_of and_then rounds calls_in
  course_calls [] r = refl
  course_calls (c ∷ commands) r =
      ap (λ (l : List (ℕ × Bool)). (round_of (ordered calc) r c).calls ++ l) (course_calls commands (round_of (ordered calc) r c).next)

  pub course_next : (commands : List Command) (r : Running Order) → (course_of calc commands r).next ≡ after calc commands r
  unfolding course_of and_then after
  course_next [] r = refl
  course_next (c ∷ commands) r = course_next commands (round_of (ordered calc) r c).next

  -- commands behind others
  pub course_joined : (first second : List Command) (r : Running Order)
      → course_of calc (first ++ second) r ≡ and_then (course_of calc first r) (course_of calc second)
  unfolding course_of and_then
  course_joined [] second r = refl
  course_joined (c ∷ first) second r =
      let t = round_of (ordered calc) r c in
      let own = course_of calc first t.next in
      ap (λ (u : Course Order). before t.lines t.calls u) (course_joined first second t.next)
      ∙ joined t.lines own.lines t.calls own.calls (course_of calc second own.next)

  -- what a bench was called for in a course that was done, and in one in which memory ran out
  pub course_makes : (commands : List Command) (r new : Running Order) (lines late : List ℕ) (count now : ℕ) (log log_now : Log)
      → Does Order (course_of calc commands r) new (output lines count log) (output late now log_now)
      → Makes (calls_of (ordered calc) r commands) count now log log_now
  course_makes commands r new lines late count now log log_now does =
      subst (λ (calls : List (ℕ × Bool)). Makes calls count now log log_now) (course_calls commands r) (record {
        count = ap (λ (o : Output). o.count) does.out;
        log = ap (λ (o : Output). o.log) does.out;
      })

  pub course_begins : (commands : List Command) (r : Running Order) (lines late : List ℕ) (count now : ℕ) (log log_now : Log)
      → Halts Order (course_of calc commands r) (output lines count log) (output late now log_now)
      → Begins (calls_of (ordered calc) r commands) count now log log_now
  course_begins commands r lines late count now log log_now halts =
      subst (λ (calls : List (ℕ × Bool)). Begins calls count now log log_now) (course_calls commands r) (record {
        begun = halts.begun;
        ended = halts.ended;
        most = halts.most;
        last = halts.last;
        count = ap (λ (o : Output). o.count) halts.out;
        log = ap (λ (o : Output). o.log) halts.out;
      })
