-- How far the commands of a script are done whose lines are let go.
use Rattle.std.proofs.Common.{◌≡◌, ℕ, ◌+◌, ◌<◌, ◌≤◌, Bool, false, List, [], ◌∷◌, ◌++◌, length, drop, get_or, Option, ◌∙◌, ap, subst}
use Rattle.desk_terms.specs.Reading.{Calc}
use Rattle.desk_model.specs.Sound.{IsSound}
use Rattle.session_commands.specs.declared.command.Command.{Command}
use Rattle.watch_rounds.specs.declared.picker.Order.{Order}
use Rattle.session_model.specs.Course.{Running, Course, round_of}
use Rattle.session_model.specs.Rounds.{calls_of}
use Rattle.session_rounds.specs.Goes.{Output, Does, Halts, Stays}
use Rattle.tool_script.specs.Scenario.{ordered, after}
use Rattle.tool_frame.specs.Calls.{Makes, Begins}
use Rattle.tool_script.specs.Course.{course_of, output}
use Rattle.tool_script.proofs.Courses.{course_next, course_makes, course_begins}
use Rattle.tool_script.proofs.Steps.{Progress, progress_none, progress_next, progress_last, progress_more, progress_halts, progress_done, does_of, halts_of}

abbrev Log : Type 0
Log = Option (List (ℕ × Bool))

-- a round whose lines are put out alone, put out behind others
does_behind : (t : Course Order) (new : Running Order) (text lines : List ℕ) (count now : ℕ) (log late : Log)
    → Does Order t new (output [] count log) (output lines now late)
    → Does Order t new (output text count log) (output (text ++ lines) now late)
does_behind t new text lines count now log late does = record {
  next = does.next;
  out = ap (λ (o : Output). output (text ++ o.lines) o.count o.log) does.out;
}

halts_behind : (t : Course Order) (text lines : List ℕ) (count now : ℕ) (log late : Log)
    → Halts Order t (output [] count log) (output lines now late)
    → Halts Order t (output text count log) (output (text ++ lines) now late)
halts_behind t text lines count now log late halts = record {
  front = halts.front;
  rest = halts.rest;
  whole = halts.whole;
  begun = halts.begun;
  ended = halts.ended;
  most = halts.most;
  last = halts.last;
  out = ap (λ (o : Output). output (text ++ o.lines) o.count o.log) halts.out;
}

module _ (calc : Calc) (commands : List Command) (first : Running Order) (count0 : ℕ) (log0 : Log) where
  -- these commands are left, over this session, and this text was let go
  pub record LetGo (rest : List Command) (r : Running Order) (count : ℕ) (log : Log) : Type 0 where
    pub text : List ℕ
    pub progress : Progress calc commands first (output [] count0 log0) rest r (output text count log)

  pub letgo_none : first.standing.stopped ≡ false → IsSound calc first.standing.state → LetGo commands first count0 log0
  letgo_none running sound =
      record { text = []; progress = progress_none calc commands first (output [] count0 log0) running sound }

  -- the next command at a place
  pub letgo_next : (i : ℕ) (c : Command) (r : Running Order) (count : ℕ) (log : Log) → i < length commands → c ≡ get_or commands i c
      → LetGo (drop i commands) r count log → LetGo (c ∷ drop (i + 1) commands) r count log
  letgo_next i c r count log within is p = record {
    text = p.text;
    progress = progress_next calc commands first (output [] count0 log0) i c r (output p.text count log) within is p.progress;
  }

  module _ (c : Command) (rest : List Command) (r : Running Order) (count : ℕ) (log : Log) (p : LetGo (c ∷ rest) r count log)
      (other : Calc) (same : other ≡ calc) (cleared lines : List ℕ) (none : cleared ≡ []) (now : ℕ) (late : Log) where
    -- one is done
    pub letgo_more : (new : Running Order)
        → Does Order (round_of (ordered other) r c) new (output cleared count log) (output lines now late)
        → Stays other r.standing new.standing → new.standing.stopped ≡ false → LetGo rest new now late
    letgo_more new does stays running = record {
      text = p.text ++ lines;
      progress = progress_more calc commands first (output [] count0 log0) c rest r new (output p.text count log)
          (output (p.text ++ lines) now late) p.progress
          (does_behind (round_of (ordered calc) r c) new p.text lines count now log late
          (subst (λ (l : List ℕ). Does Order (round_of (ordered calc) r c) new (output l count log) (output lines now late)) none
          (does_of calc other r new c (output cleared count log) (output lines now late) same does)))
          (subst (λ (k : Calc). Stays k r.standing new.standing) same stays) running;
    }

    -- memory runs out in it
    pub letgo_halts : Halts Order (round_of (ordered other) r c) (output cleared count log) (output lines now late)
        → Begins (calls_of (ordered calc) first commands) count0 now log0 late
    letgo_halts halts =
        course_begins calc commands first [] (p.text ++ lines) count0 now log0 late
        (progress_halts calc commands first (output [] count0 log0) c rest r (output p.text count log)
        (output (p.text ++ lines) now late) p.progress
        (halts_behind (round_of (ordered calc) r c) p.text lines count now log late
        (subst (λ (l : List ℕ). Halts Order (round_of (ordered calc) r c) (output l count log) (output lines now late)) none
        (halts_of calc other r c (output cleared count log) (output lines now late) same halts))))

  -- all are done
  module _ (i : ℕ) (r : Running Order) (count : ℕ) (log : Log) (past : length commands ≤ i) (p : LetGo (drop i commands) r count log) where
    done : Does Order (course_of calc commands first) r (output [] count0 log0) (output p.text count log)
    done =
        progress_done calc commands first (output [] count0 log0) r (output p.text count log)
        (progress_last calc commands first (output [] count0 log0) i r (output p.text count log) past p.progress)

    pub letgo_after : r ≡ after calc commands first
    letgo_after = done.next ∙ course_next calc commands first

    pub letgo_makes : Makes (calls_of (ordered calc) first commands) count0 count log0 log
    letgo_makes = course_makes calc commands first r [] p.text count0 count log0 log done
