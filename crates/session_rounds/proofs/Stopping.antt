-- In which of its moments a round ran out of memory.
use Rattle.std.proofs.Common.{◌≡◌, ◌⊎◌, inl, inr, ℕ, suc, false, Bool, ◌+◌, ◌-◌, ◌≤◌, List, [], ◌∷◌, ◌++◌, length, drop, Option, Some, refl, sym, ap, subst, ◌∙◌, arith}
use Rattle.std.specs.Prelude.{slice_get, ◌==◌}
use Rattle.std.proofs.lemmas.Bool.{true≢false}
use Rattle.std.proofs.lemmas.List.{append_assoc, append-nil}
use Rattle.desk_terms.specs.Reading.{Outcome, Calc}
use Rattle.session_commands.specs.declared.command.Command.{Command}
use Rattle.watch_rounds.specs.declared.rounds.DueWatcher.{DueWatcher}
use Rattle.watch_rounds.specs.Round.{runs_left, watcher_at}
use Rattle.session_model.specs.Standing.{Standing}
use Rattle.session_model.specs.Turn.{turn}
use Rattle.session_model.specs.Course.{Running, Meaning, and_then, taken, heard, course_of, course_of_all, chosen, begun, action_of, run}
use Rattle.session_model.specs.Moments.{Moment, moment_of, moments_of_all, moments_of_run, none_unless_due, moments_of_runs, lines_at, calls_at}
use Rattle.session_model.proofs.Ends.{all_done_left}
use Rattle.session_model.proofs.Moments.{heard_calls}
use Rattle.session_core.specs.Steps as steps
use Rattle.session_rounds.specs.Goes.{Output, with_more, lines_alone, Does, Halts}
use Rattle.session_rounds.specs.Stopped.{turn_at, done_at, StopsWithin, StopsBehind, HaltsIn}
use Rattle.session_rounds.proofs.Going.{more_none, more_more}
use Rattle.session_rounds.proofs.Plays.{drop_read, some_due}

-- memory ran out in the turn of a command
pub stops_within : {P : Type 0} → (m : Meaning P) (r : Running P) (c : Command) (survivors : List (ℕ × Outcome)) (old new : Standing)
    (lines_old lines_new : List ℕ) (count_old count_new : ℕ) (log_old log_new : Option (List (ℕ × Bool)))
    → steps.Ends (turn m.calc r.standing c) survivors old new lines_old lines_new count_old count_new log_old log_new
    → StopsWithin m.calc (moment_of m r c)
    (record { lines = lines_old; count = count_old; log = log_old }) (record { lines = lines_new; count = count_new; log = log_new })
stops_within m r c survivors old new lines_old lines_new count_old count_new log_old log_new ends = record {
  begun = ends.begun;
  ended = ends.ended;
  most = ends.most;
  last = ends.last;
  out = λ i. record { lines = ends.written i; count = ends.count i; log = ends.log i };
}

-- memory ran out at once behind a turn
pub stops_at_once : {P : Type 0} → (m : Meaning P) (r : Running P) (c : Command) (out_old out_new : Output)
    → out_new ≡ with_more (turn m.calc r.standing c).lines (turn m.calc r.standing c).calls out_old
    → StopsBehind m.calc (moment_of m r c) out_old out_new
stops_at_once m r c out_old out_new out = record {
  front = [];
  rest = (moment_of m r c).over;
  over = refl;
  out = out ∙ ap (λ (l : List ℕ). with_more l (turn m.calc r.standing c).calls out_old) (sym (append-nil (turn m.calc r.standing c).lines));
}

-- memory ran out as the notices of a command were handed out
pub stops_hearing : {P : Type 0} → (m : Meaning P) (r new : Running P) (c : Command) (lines_now lines_new : List ℕ) (out_old : Output)
    (count : ℕ) (log : Option (List (ℕ × Bool)))
    → Does P (taken (turn m.calc r.standing c) r) new out_old (record { lines = lines_now; count = count; log = log })
    → Halts P (heard new) (lines_alone lines_now) (lines_alone lines_new)
    → StopsBehind m.calc (moment_of m r c) out_old (record { lines = lines_new; count = count; log = log })
stops_hearing {P} m r new c lines_now lines_new out_old count log does halts = record {
  front = halts.front;
  rest = halts.rest;
  over = ap (λ (z : Running P). (heard z).lines) (sym does.next) ∙ halts.whole;
  out = (λ i. record { lines = told i; count = count; log = log })
      ∙ (λ i. record {
        lines = append_assoc out_old.lines (turn m.calc r.standing c).lines halts.front i;
        count = ap (λ (o : Output). o.count) does.out i;
        log = ap (λ (o : Output). o.log) does.out i;
      });
}
  where
    told : lines_new ≡ (out_old.lines ++ (turn m.calc r.standing c).lines) ++ halts.front
    told = ap (λ (o : Output). o.lines) halts.out ∙ ap (λ (o : Output). o.lines ++ halts.front) does.out

-- of one moment
pub halts_one : (calc : Calc) (moment : Moment) (out_old out_new : Output)
    → (StopsWithin calc moment out_old out_new ⊎ StopsBehind calc moment out_old out_new) → HaltsIn calc (moment ∷ []) out_old out_new
unfolding HaltsIn
halts_one calc moment out_old out_new stops = inl stops

-- whatever moments come behind
pub halts_before : (calc : Calc) (xs ys : List Moment) (out_old out_new : Output) → HaltsIn calc xs out_old out_new
    → HaltsIn calc (xs ++ ys) out_old out_new
unfolding HaltsIn
halts_before calc [] ys out_old out_new halts = absurd halts
halts_before calc (x ∷ xs) ys out_old out_new (inl here) = inl here
halts_before calc (x ∷ xs) ys out_old out_new (inr rest) = inr (halts_before calc xs ys (done_at calc x out_old) out_new rest)

-- in those behind some that are all done
pub halts_after : (calc : Calc) (xs ys : List Moment) (out_old out_now out_new : Output)
    → out_now ≡ with_more (lines_at calc xs) (calls_at calc xs) out_old → HaltsIn calc ys out_now out_new
    → HaltsIn calc (xs ++ ys) out_old out_new
unfolding HaltsIn lines_at calls_at
halts_after calc [] ys out_old out_now out_new out halts =
    subst (λ (o : Output). HaltsIn calc ys o out_new) (out ∙ sym (more_none out_old)) halts
halts_after calc (x ∷ xs) ys out_old out_now out_new out halts =
    inr (halts_after calc xs ys (done_at calc x out_old) out_now out_new
    (out ∙ sym (more_more ((turn_at calc x).lines ++ x.over) (lines_at calc xs) (turn_at calc x).calls (calls_at calc xs) out_old)) halts)

-- a command is done: so is its moment
done_is : {P : Type 0} → (m : Meaning P) (r new : Running P) (c : Command) (out_old out_now : Output)
    → Does P (course_of m r c) new out_old out_now → out_now ≡ done_at m.calc (moment_of m r c) out_old
unfolding course_of and_then
done_is m r new c out_old out_now does = does.out
    ∙ ap (λ (l : List (ℕ × Bool)). with_more ((turn m.calc r.standing c).lines ++ (moment_of m r c).over) l out_old)
    (ap (λ (l : List (ℕ × Bool)). (turn m.calc r.standing c).calls ++ l) (heard_calls (taken (turn m.calc r.standing c) r).next)
    ∙ append-nil (turn m.calc r.standing c).calls)

-- in the moments behind a command that is done
pub halts_then : {P : Type 0} → (m : Meaning P) (r new : Running P) (c : Command) (ms : List Moment) (out_old out_now out_new : Output)
    → Does P (course_of m r c) new out_old out_now → HaltsIn m.calc ms out_now out_new
    → HaltsIn m.calc (moment_of m r c ∷ ms) out_old out_new
unfolding HaltsIn
halts_then m r new c ms out_old out_now out_new does halts =
    inr (subst (λ (o : Output). HaltsIn m.calc ms o out_new) (done_is m r new c out_old out_now does) halts)

-- in those behind the commands of an action that are all done
pub halts_past : {P : Type 0} → (m : Meaning P) (commands : List Command) (r : Running P) (ms : List Moment) (out_old out_now out_new : Output)
    → out_now ≡ with_more (course_of_all m commands r).lines (course_of_all m commands r).calls out_old
    → HaltsIn m.calc ms out_now out_new → HaltsIn m.calc (moments_of_all m commands r ++ ms) out_old out_new
unfolding course_of_all moments_of_all and_then HaltsIn
halts_past m [] r ms out_old out_now out_new out halts =
    subst (λ (o : Output). HaltsIn m.calc ms o out_new) (out ∙ sym (more_none out_old)) halts
halts_past {P} m (c ∷ commands) r ms out_old out_now out_new out halts =
    let first = course_of m r c in
    let done : Does P first first.next out_old (with_more first.lines first.calls out_old) = record { next = refl; out = refl } in
    halts_then m r first.next c (moments_of_all m commands first.next ++ ms) out_old (with_more first.lines first.calls out_old) out_new done
    (halts_past m commands first.next ms (with_more first.lines first.calls out_old) out_now out_new
    (out ∙ sym (more_more first.lines (course_of_all m commands first.next).lines first.calls (course_of_all m commands first.next).calls out_old)) halts)

-- THE COMMANDS OF AN ACTION: what ran out behind so many ran out in all
abbrev pub Leads : (calc : Calc) (total left : List Moment) (out_old out_now : Output) → Type 0
Leads calc total left out_old out_now = (out_new : Output) → HaltsIn calc left out_now out_new → HaltsIn calc total out_old out_new

module _ {P : Type 0} (m : Meaning P) (commands : List Command) (i : ℕ) where
  moments_more : (c : Command) (r : Running P) → slice_get commands i ≡ Some c
      → moments_of_all m (drop i commands) r ≡ moment_of m r c ∷ moments_of_all m (drop (i + 1) commands) (course_of m r c).next
  unfolding moments_of_all
  moments_more c r is = ap (λ (cs : List Command). moments_of_all m cs r) (drop_read commands i c is)

  pub leads_on : (total : List Moment) (c : Command) (r new : Running P) (out_old out_now out_then : Output)
      → Leads m.calc total (moments_of_all m (drop i commands) r) out_old out_now → slice_get commands i ≡ Some c
      → Does P (course_of m r c) new out_now out_then
      → Leads m.calc total (moments_of_all m (drop (i + 1) commands) new) out_old out_then
  leads_on total c r new out_old out_now out_then leads is does = λ out_new halts.
      leads out_new (subst (λ (ms : List Moment). HaltsIn m.calc ms out_now out_new) (sym (moments_more c r is))
      (halts_then m r new c (moments_of_all m (drop (i + 1) commands) (course_of m r c).next) out_now out_then out_new does
      (subst (λ (z : Running P). HaltsIn m.calc (moments_of_all m (drop (i + 1) commands) z) out_then out_new) does.next halts)))

  pub leads_halt : (total : List Moment) (c : Command) (r : Running P) (out_old out_now out_new : Output)
      → Leads m.calc total (moments_of_all m (drop i commands) r) out_old out_now → slice_get commands i ≡ Some c
      → HaltsIn m.calc (moment_of m r c ∷ []) out_now out_new → HaltsIn m.calc total out_old out_new
  leads_halt total c r out_old out_now out_new leads is halts =
      leads out_new (subst (λ (ms : List Moment). HaltsIn m.calc ms out_now out_new) (sym (moments_more c r is))
      (halts_before m.calc (moment_of m r c ∷ []) (moments_of_all m (drop (i + 1) commands) (course_of m r c).next) out_now out_new halts))

-- THE RUNS OF A ROUND: what ran out in the runs that are left ran out in all
pub record Awaits (P : Type 0) (m : Meaning P) (start now : Running P) (out_old out_now : Output) : Type 0 where
  pub number : ℕ
  pub most : number + runs_left now.round ≤ runs_left start.round
  pub leads : (k j : ℕ) → j ≡ number + k → Leads m.calc (moments_of_runs m j start) (moments_of_runs m k now) out_old out_now

module _ {P : Type 0} (m : Meaning P) where
  pub awaits_start : (r : Running P) (out : Output) → Awaits P m r r out out
  awaits_start r out = record {
    number = 0;
    most = omega arith;
    leads = λ k j is out_new halts. subst (λ (i : ℕ). HaltsIn m.calc (moments_of_runs m i r) out out_new) (let same : k ≡ j = omega arith in same) halts;
  }

  some_moments : (due : List DueWatcher) (ms : List Moment) → (length due == 0) ≡ false → none_unless_due due ms ≡ ms
  some_moments [] ms some = absurd (true≢false some)
  some_moments (entry ∷ due) ms some = refl

  -- the moments of a run that begins, and of those behind it
  runs_first : (k : ℕ) (now : Running P) (w : ℕ) → watcher_at (chosen m now) now.round ≡ Some w
      → moments_of_runs m (suc k) now
      ≡ moments_of_all m (action_of now.standing (Some w)) (begun m now)
      ++ moments_of_runs m k (course_of_all m (action_of now.standing (Some w)) (begun m now)).next
  unfolding moments_of_runs run
  runs_first k now w is =
      some_moments now.round.due (moments_of_run m now ++ moments_of_runs m k (run m now).next) (some_due m now.round.due (chosen m now) w is)
      ∙ ap (λ (o : Option ℕ). moments_of_all m (action_of now.standing o) (begun m now)
      ++ moments_of_runs m k (course_of_all m (action_of now.standing o) (begun m now)).next) is

  pub awaits_on : (start now new : Running P) (w : ℕ) (out_old out_now out_then : Output)
      → Awaits P m start now out_old out_now → watcher_at (chosen m now) now.round ≡ Some w
      → runs_left (begun m now).round + 1 ≡ runs_left now.round
      → Does P (course_of_all m (action_of now.standing (Some w)) (begun m now)) new out_now out_then
      → Awaits P m start new out_old out_then
  awaits_on start now new w out_old out_now out_then awaits is falls does = record {
    number = awaits.number + 1;
    most = let most = awaits.most in let same = ap (λ (r : Running P). runs_left r.round) does.next
        ∙ all_done_left m (action_of now.standing (Some w)) (begun m now) in omega arith;
    leads = λ k j same out_new halts. awaits.leads (suc k) j (omega arith) out_new
        (subst (λ (ms : List Moment). HaltsIn m.calc ms out_now out_new) (sym (runs_first k now w is))
        (halts_past m (action_of now.standing (Some w)) (begun m now)
        (moments_of_runs m k (course_of_all m (action_of now.standing (Some w)) (begun m now)).next) out_now out_then out_new does.out
        (subst (λ (r : Running P). HaltsIn m.calc (moments_of_runs m k r) out_then out_new) does.next halts)));
  }

  pub awaits_halt : (start now : Running P) (w : ℕ) (out_old out_now out_new : Output)
      → Awaits P m start now out_old out_now → watcher_at (chosen m now) now.round ≡ Some w
      → runs_left (begun m now).round + 1 ≡ runs_left now.round
      → HaltsIn m.calc (moments_of_all m (action_of now.standing (Some w)) (begun m now)) out_now out_new
      → (k : ℕ) → runs_left start.round ≤ k → HaltsIn m.calc (moments_of_runs m k start) out_old out_new
  awaits_halt start now w out_old out_now out_new awaits is falls halts k more =
      let most = awaits.most in
      awaits.leads (suc (k - awaits.number - 1)) k (omega arith) out_new
      (subst (λ (ms : List Moment). HaltsIn m.calc ms out_now out_new) (sym (runs_first (k - awaits.number - 1) now w is))
      (halts_before m.calc (moments_of_all m (action_of now.standing (Some w)) (begun m now))
      (moments_of_runs m (k - awaits.number - 1) (course_of_all m (action_of now.standing (Some w)) (begun m now)).next) out_now out_new halts))
