-- The commands of an action are done one at a time, and the runs of a round.
use Rattle.std.proofs.Common.{◌≡◌, ℕ, zero, suc, false, ◌+◌, ◌-◌, ◌*◌, ◌≤◌, List, [], ◌∷◌, ◌++◌, length, drop, Option, Some, None, refl, sym, ap, subst, ◌∙◌, arith}
use Rattle.std.specs.Prelude.{slice_get, slice_index_or, ◌==◌, if◌then◌else◌}
use Rattle.std.proofs.lemmas.Bool.{ne_eqb, true≢false}
use Rattle.std.proofs.lemmas.List.{length-replicate}
use Rattle.session_commands.specs.declared.command.Command.{Command}
use Rattle.watch_rounds.specs.declared.rounds.DueWatcher.{DueWatcher}
use Rattle.watch_rounds.specs.Round.{Round, blank, runs_left, watcher_at, watcher_of, with_run}
use Rattle.watch_rounds.proofs.Stays.{nobody_ran}
use Rattle.session_model.specs.Standing.{name_of}
use Rattle.session_model.specs.Course.{Running, Meaning, Course, quiet, before, and_then, course_of, course_of_all, chosen, begun, action_of, run, unless_none, runs_by, opened}
use Rattle.session_model.proofs.Ends.{all_done_left, eight_each}
use Rattle.session_rounds.specs.Goes.{Output, Does, Halts, Goes, Runs}
use Rattle.session_rounds.proofs.Going.{more_none, out_more, joined, goes_on, goes_halt, goes_end}

pub drop_read : (commands : List Command) (i : ℕ) (c : Command) → slice_get commands i ≡ Some c
    → drop i commands ≡ c ∷ drop (i + 1) commands
drop_read commands i c is = subst (λ (n : ℕ). drop i commands ≡ c ∷ drop n commands) (one i) (drop_suc commands i c is)
  where
    one : (i : ℕ) → suc i ≡ i + 1
    one i = omega arith

    some_is : (a b : Command) → Some a ≡ Some b → a ≡ b
    some_is a b e = cc

    drop_suc : (commands : List Command) (i : ℕ) (c : Command) → slice_get commands i ≡ Some c
        → drop i commands ≡ c ∷ drop (suc i) commands
    drop_suc [] zero c is = absurd (cc)
    drop_suc [] (suc i) c is = absurd (cc)
    drop_suc (first ∷ rest) zero c is = ap (λ (x : Command). x ∷ rest) (some_is first c is)
    drop_suc (first ∷ rest) (suc i) c is = drop_suc rest i c is

drop_past : (commands : List Command) (i : ℕ) → slice_get commands i ≡ None → drop i commands ≡ []
drop_past [] zero is = refl
drop_past [] (suc i) is = refl
drop_past (first ∷ rest) zero is = absurd (cc)
drop_past (first ∷ rest) (suc i) is = drop_past rest i is

module _ {P : Type 0} (m : Meaning P) (commands : List Command) (i : ℕ) where
  left_more : (c : Command) (r : Running P) → slice_get commands i ≡ Some c
      → course_of_all m (drop i commands) r ≡ and_then (course_of m r c) (course_of_all m (drop (i + 1) commands))
  unfolding course_of_all
  left_more c r is = ap (λ (cs : List Command). course_of_all m cs r) (drop_read commands i c is)

  left_none : (r : Running P) → slice_get commands i ≡ None → course_of_all m (drop i commands) r ≡ quiet r
  unfolding course_of_all
  left_none r is = ap (λ (cs : List Command). course_of_all m cs r) (drop_past commands i is)

  pub plays_on : (total : Course P) (c : Command) (r new : Running P) (out_old out_now out_new : Output)
      → Goes P total (course_of_all m (drop i commands) r) out_old out_now → slice_get commands i ≡ Some c
      → Does P (course_of m r c) new out_now out_new
      → Goes P total (course_of_all m (drop (i + 1) commands) new) out_old out_new
  plays_on total c r new out_old out_now out_new goes is does =
      goes_on total (course_of m r c) (course_of_all m (drop (i + 1) commands)) new out_old out_now out_new
      (subst (λ (t : Course P). Goes P total t out_old out_now) (left_more c r is) goes) does

  pub plays_halt : (total : Course P) (c : Command) (r : Running P) (out_old out_now out_new : Output)
      → Goes P total (course_of_all m (drop i commands) r) out_old out_now → slice_get commands i ≡ Some c
      → Halts P (course_of m r c) out_now out_new → Halts P total out_old out_new
  plays_halt total c r out_old out_now out_new goes is halts =
      goes_halt total (course_of m r c) (course_of_all m (drop (i + 1) commands)) out_old out_now out_new
      (subst (λ (t : Course P). Goes P total t out_old out_now) (left_more c r is) goes) halts

  pub plays_end : (total : Course P) (r : Running P) (out_old out_new : Output)
      → Goes P total (course_of_all m (drop i commands) r) out_old out_new → slice_get commands i ≡ None
      → Does P total r out_old out_new
  plays_end total r out_old out_new goes is =
      goes_end total r out_old out_new (subst (λ (t : Course P). Goes P total t out_old out_new) (left_none r is) goes)

-- no action, no command
pub plays_none : {P : Type 0} → (m : Meaning P) (r : Running P) (w : ℕ) (out : Output)
    → slice_index_or r.standing.watching (name_of r.standing w) None ≡ None
    → Does P (course_of_all m (action_of r.standing (Some w)) r) r out out
unfolding course_of_all
plays_none {P} m r w out is = rw is (record { next = refl; out = more_none out })

-- THE RUNS OF A ROUND
module _ {P : Type 0} (m : Meaning P) where
  pub some_due : (due : List DueWatcher) (at w : ℕ) → watcher_of (slice_get due at) ≡ Some w → (length due == 0) ≡ false
  some_due [] zero w is = absurd (cc)
  some_due [] (suc at) w is = absurd (cc)
  some_due (entry ∷ due) at w is = ne_eqb (length (entry ∷ due)) 0 (λ none. absurd (omega arith))

  no_run : (due : List DueWatcher) (r : Running P) (t : Course P) → length due ≡ 0 → unless_none due r t ≡ quiet r
  no_run [] r t none = refl
  no_run (entry ∷ due) r t none = absurd (omega arith)

  run_first : (due : List DueWatcher) (r : Running P) (t : Course P) → (length due == 0) ≡ false → unless_none due r t ≡ t
  run_first [] r t some = absurd (true≢false some)
  run_first (entry ∷ due) r t some = refl

  -- the run that begins is that of the definition
  pub begun_is : (now new : Running P) (w : ℕ) (result : Option ℕ) → result ≡ Some w
      → result ≡ watcher_at (m.at now.picker (length now.round.due)) now.round
      → new ≡ record now {
        round = with_run (m.at now.picker (length now.round.due)) now.round;
        picker = if length now.round.due == 0 then now.picker else m.after now.picker (length now.round.due);
      }
      → (watcher_at (chosen m now) now.round ≡ Some w) × (new ≡ begun m now)
  unfolding begun
  begun_is now new w result some due is =
      let here = sym due ∙ some in (
        here,
        is ∙ ap (λ (picker : P). let z : Running P = record now {
          round = with_run (m.at now.picker (length now.round.due)) now.round;
          picker = picker;
        } in z) (rw (some_due now.round.due (m.at now.picker (length now.round.due)) w here) refl),
      )

  -- where nobody is due, nothing begins
  pub nobody_is : (now new : Running P) → length now.round.due ≡ 0
      → new ≡ record now {
        round = with_run (m.at now.picker (length now.round.due)) now.round;
        picker = if length now.round.due == 0 then now.picker else m.after now.picker (length now.round.due);
      }
      → new ≡ now
  nobody_is now new none is = is
      ∙ ap (λ (round : Round). let z : Running P = record now {
        round = round;
        picker = if length now.round.due == 0 then now.picker else m.after now.picker (length now.round.due);
      } in z) (nobody_ran now.round (m.at now.picker (length now.round.due)) none)
      ∙ ap (λ (picker : P). let z : Running P = record now { picker = picker } in z) (rw none refl)

  pub runs_start : (r : Running P) (out : Output) → Runs P m r r out out
  runs_start r out = record {
    number = 0;
    most = omega arith;
    lines = [];
    calls = [];
    out = more_none out;
    whole = λ k j is. ap (λ (i : ℕ). runs_by m i r) (let same : j ≡ k = omega arith in same);
  }

  -- a run more is done, of the watcher that is chosen
  pub runs_on : (start now new : Running P) (w : ℕ) (out_old out_now out_new : Output)
      → Runs P m start now out_old out_now → watcher_at (chosen m now) now.round ≡ Some w
      → runs_left (begun m now).round + 1 ≡ runs_left now.round
      → Does P (course_of_all m (action_of now.standing (Some w)) (begun m now)) new out_now out_new
      → Runs P m start new out_old out_new
  unfolding runs_by and_then run begun
  runs_on start now new w out_old out_now out_new runs is falls does = record {
    number = runs.number + 1;
    most = let most = runs.most in let same = ap (λ (r : Running P). runs_left r.round) does.next
        ∙ all_done_left m (action_of now.standing (Some w)) (begun m now) in omega arith;
    lines = runs.lines ++ t.lines;
    calls = runs.calls ++ t.calls;
    out = out_more t new runs.lines runs.calls out_old out_now out_new runs.out does;
    whole = λ k j same. runs.whole (suc k) j (omega arith)
        ∙ ap (before runs.lines runs.calls) (run_first now.round.due now (and_then (run m now) (runs_by m k)) (some_due now.round.due (chosen m now) w is))
        ∙ ap (λ (o : Option ℕ). before runs.lines runs.calls (and_then (course_of_all m (action_of now.standing o) (begun m now)) (runs_by m k))) is
        ∙ joined runs.lines t.lines runs.calls t.calls (runs_by m k t.next)
        ∙ ap (λ (r : Running P). before (runs.lines ++ t.lines) (runs.calls ++ t.calls) (runs_by m k r)) (sym does.next);
  }
    where
      t : Course P
      t = course_of_all m (action_of now.standing (Some w)) (begun m now)

  none_left : (k : ℕ) (r : Running P) → length r.round.due ≡ 0 → runs_by m k r ≡ quiet r
  unfolding runs_by
  none_left zero r none = refl
  none_left (suc k) r none = no_run r.round.due r (and_then (run m r) (runs_by m k)) none

  -- nobody is due any more
  pub runs_end : (start now : Running P) (out_old out_new : Output) → Runs P m start now out_old out_new → length now.round.due ≡ 0
      → (k : ℕ) → runs_left start.round ≤ k → Does P (runs_by m k start) now out_old out_new
  runs_end start now out_old out_new runs none k more =
      let most = runs.most in
      goes_end (runs_by m k start) now out_old out_new (record {
        lines = runs.lines;
        calls = runs.calls;
        out = runs.out;
        whole = runs.whole (k - runs.number) k (omega arith) ∙ ap (before runs.lines runs.calls) (none_left (k - runs.number) now none);
      })

  -- a run halts
  pub runs_halt : (start now : Running P) (w : ℕ) (out_old out_now out_new : Output)
      → Runs P m start now out_old out_now → watcher_at (chosen m now) now.round ≡ Some w
      → runs_left (begun m now).round + 1 ≡ runs_left now.round
      → Halts P (course_of_all m (action_of now.standing (Some w)) (begun m now)) out_now out_new
      → (k : ℕ) → runs_left start.round ≤ k → Halts P (runs_by m k start) out_old out_new
  unfolding runs_by run begun
  runs_halt start now w out_old out_now out_new runs is falls halts k more =
      let most = runs.most in
      goes_halt (runs_by m k start) (course_of_all m (action_of now.standing (Some w)) (begun m now)) (runs_by m (k - runs.number - 1)) out_old out_now out_new
      (record {
        lines = runs.lines;
        calls = runs.calls;
        out = runs.out;
        whole = runs.whole (suc (k - runs.number - 1)) k (omega arith)
            ∙ ap (before runs.lines runs.calls) (run_first now.round.due now (and_then (run m now) (runs_by m (k - runs.number - 1))) (some_due now.round.due (chosen m now) w is))
            ∙ ap (λ (o : Option ℕ). before runs.lines runs.calls (and_then (course_of_all m (action_of now.standing o) (begun m now)) (runs_by m (k - runs.number - 1)))) is;
      }) halts

-- where nobody is due nobody runs
pub nobody_runs : {P : Type 0} → (r : Running P) (at w : ℕ) → watcher_at at r.round ≡ Some w → r.round.due ≡ [] → ⊥
nobody_runs r at w is none = never at (subst (λ (due : List DueWatcher). watcher_of (slice_get due at) ≡ Some w) none is)
  where
    never : (at : ℕ) → watcher_of (slice_get [] at) ≡ Some w → ⊥
    never zero is = cc
    never (suc at) is = cc

-- each name has 8 runs when a round begins
pub opened_left : {P : Type 0} → (r : Running P) → runs_left (opened r).round ≤ 8 * length r.standing.names
unfolding opened
opened_left r = subst (λ (n : ℕ). runs_left (opened r).round ≤ 8 * n) (length-replicate (length r.standing.names) blank) (eight_each (opened r).round)
