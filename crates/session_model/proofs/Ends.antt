-- A round ends: the runs that are left fall at each run.
use Rattle.std.proofs.Common.{◌≡◌, inl, inr, ℕ, zero, suc, ◌+◌, ◌<◌, ◌≤◌, true, List, [], ◌∷◌, ◌++◌, length, get_or, refl, sym, ap, subst, ◌∙◌, ◌*◌, arith}
use Rattle.std.specs.Prelude.{◌==◌, if◌then◌else◌, All}
use Rattle.std.proofs.lemmas.List.{length-replicate}
use Rattle.std.proofs.lemmas.List.Elements.{All-head, All-tail}
use Rattle.std.proofs.lemmas.Option.{slice_get_cases}
use Rattle.walks.specs.Walk.{Among}
use Rattle.desk_model.specs.Market.{slot_at, is_watcher}
use Rattle.session_commands.specs.declared.command.Command.{Command}
use Rattle.watch_rounds.specs.declared.rounds.DueWatcher.{DueWatcher}
use Rattle.watch_rounds.specs.Due.{AreAll}
use Rattle.watch_rounds.specs.Round.{Round, MayRun, blank, runs_left, tally_at, watcher_at}
use Rattle.watch_rounds.specs.Course.{Start, starts}
use Rattle.watch_rounds.proofs.Places.{all_at, all_map}
use Rattle.watch_rounds.proofs.Stays.{view_of, round_empty}
use Rattle.watch_rounds.proofs.Tallies.{left_noticed, left_ran, most_left, read_blank}
use Rattle.watch_rounds.proofs.Courses.{runs_at}
use Rattle.session_model.specs.Standing.{Standing, start_with, name_of}
use Rattle.session_model.specs.Turn.{Turn, turn}
use Rattle.session_model.specs.Course.{Running, Meaning, Course, running, quiet, before, and_then, taken, notice, noticed, heard, all_handed_out, course_of, course_of_all, chosen, begun, action_of, run, unless_none, runs_by, most_runs, opened, round_of}
use Rattle.session_model.specs.Moments.{none_unless_due}
use Rattle.session_model.specs.Ends.{IsPicking, names_in, names_in_all, names_of_watchers, times, name_if, names_run, names_run_in, IsOver, AreOver, EveryRoundEnds, MoreRunsChangeNothing}
use Rattle.session_model.proofs.Given.{AreGiven, IsOf}
use Rattle.session_model.proofs.Holding.{Stands, Holds, Keeps, handed_out, done_holds, run_holds, runs_hold}
use Rattle.session_model.proofs.Names.{among_left, among_right, among_either, once_among, few_together, commands_of, blocks_of, stands_first}

taken_left : {P : Type 0} → (turn : Turn) (r : Running P) → runs_left (taken turn r).next.round ≡ runs_left r.round
unfolding runs_left
taken_left turn r = refl

noticed_left : {P : Type 0} → (ws : List ℕ) (r : Running P) → runs_left (noticed ws r).next.round ≡ runs_left r.round
unfolding noticed and_then
noticed_left [] r = refl
noticed_left (w ∷ ws) r = noticed_left ws (notice w r).next ∙ left_noticed w (name_of r.standing w) r.round

heard_left : {P : Type 0} → (r : Running P) → runs_left (heard r).next.round ≡ runs_left r.round
unfolding heard
heard_left r = noticed_left r.standing.state.noticed (record r { standing = all_handed_out r.standing })

pub done_left : {P : Type 0} → (m : Meaning P) (r : Running P) (c : Command) → runs_left (course_of m r c).next.round ≡ runs_left r.round
unfolding course_of and_then
done_left m r c =
    heard_left (taken (turn m.calc r.standing c) r).next ∙ taken_left (turn m.calc r.standing c) r

-- no command takes a run away, or gives one
pub all_done_left : {P : Type 0} → (m : Meaning P) (commands : List Command) (r : Running P)
    → runs_left (course_of_all m commands r).next.round ≡ runs_left r.round
unfolding course_of_all and_then
all_done_left m [] r = refl
all_done_left m (command ∷ commands) r = all_done_left m commands (course_of m r command).next ∙ done_left m r command

-- each of these has a name that is counted, and a run left
abbrev HaveRunsLeft : Round → List DueWatcher → Type 0
HaveRunsLeft round due = AreAll (λ entry. (entry.name < length round.tallies) × ((tally_at round entry.name).runs < 8)) due

have_left : {P : Type 0} → (given : List ℕ) (names actions : ℕ) (r : Running P) → Holds given names actions r
    → HaveRunsLeft r.round r.round.due
have_left given names actions r h = all_map (MayRun (view_of r.round.due r.round.tallies h.nodes))
    (λ entry. (entry.name < length r.round.tallies) × ((tally_at r.round entry.name).runs < 8)) (λ entry may. (may.1, may.2)) r.round.due h.round.due

run_left : {P : Type 0} → (m : Meaning P) (r : Running P) → chosen m r < length r.round.due → HaveRunsLeft r.round r.round.due → DueWatcher
    → runs_left (run m r).next.round + 1 ≡ runs_left r.round
unfolding run begun
run_left m r within left d =
    let may = all_at (λ entry. (entry.name < length r.round.tallies) × ((tally_at r.round entry.name).runs < 8)) r.round.due (chosen m r) d left within in
    let same = all_done_left m (action_of r.standing (watcher_at (chosen m r) r.round)) (begun m r) in
    let falls = left_ran (chosen m r) r.round d within may.0 may.1 in omega arith

some_left : (round : Round) (due : List DueWatcher) → round.due ≡ due → HaveRunsLeft round due → runs_left round ≤ 0 → due ≡ []
some_left round [] is left none = refl
some_left round (entry ∷ due) is left none =
    let falls = left_ran 0 round entry (subst (λ (l : List DueWatcher). 0 < length l) (sym is) (omega arith))
    (subst (λ (l : List DueWatcher). (get_or l 0 entry).name < length round.tallies) (sym is) left.0.0)
    (subst (λ (l : List DueWatcher). (tally_at round (get_or l 0 entry).name).runs < 8) (sym is) left.0.1) in
    absurd (omega arith)

ends_by : {P : Type 0} → (r : Running P) (course : Course P) (due : List DueWatcher) → r.round.due ≡ due
    → ((entry : DueWatcher) → 0 < length due → course.next.round.due ≡ []) → (unless_none due r course).next.round.due ≡ []
ends_by r course [] is later = is
ends_by r course (entry ∷ due) is later = later entry (omega arith)

-- as many runs as are left are enough
runs_end : {P : Type 0} → (given : List ℕ) (names actions : ℕ) (m : Meaning P) → IsPicking m → (n : ℕ) (r : Running P)
    → Holds given names actions r → runs_left r.round ≤ n → (runs_by m n r).next.round.due ≡ []
unfolding runs_by and_then
runs_end given names actions m picking zero r h few = some_left r.round r.round.due refl (have_left given names actions r h) few
runs_end given names actions m picking (suc n) r h few = ends_by r (and_then (run m r) (runs_by m n)) r.round.due refl (λ entry some.
    let falls = run_left m r (picking r.picker (length r.round.due) (omega arith)) (have_left given names actions r h) entry in
    runs_end given names actions m picking n (run m r).next (run_holds given names actions m r h).0 (omega arith))

no_run : {P : Type 0} → (r : Running P) (course : Course P) (due : List DueWatcher) → due ≡ [] → unless_none due r course ≡ quiet r
no_run r course [] e = refl
no_run r course (entry ∷ due) e = absurd (cc)

same_runs : {P : Type 0} → (r : Running P) (course other : Course P) (due : List DueWatcher)
    → (course.next.round.due ≡ [] → other ≡ course) → (unless_none due r course).next.round.due ≡ []
    → unless_none due r other ≡ unless_none due r course
same_runs r course other [] same e = refl
same_runs r course other (entry ∷ due) same e = same e

pub more_runs : {P : Type 0} → (m : Meaning P) → MoreRunsChangeNothing m
unfolding runs_by and_then
more_runs m zero zero r le e = refl
more_runs m zero (suc k) r le e = no_run r (and_then (run m r) (runs_by m k)) r.round.due e
more_runs m (suc n) zero r le e = absurd (omega arith)
more_runs m (suc n) (suc k) r le e =
    same_runs r (and_then (run m r) (runs_by m n)) (and_then (run m r) (runs_by m k)) r.round.due
    (λ ends. ap (before (run m r).lines (run m r).calls) (more_runs m n k (run m r).next (omega arith) ends)) e

pub eight_each : (round : Round) → runs_left round ≤ 8 * length round.tallies
unfolding runs_left
eight_each round = most_left round.tallies

-- HOW OFTEN NAMES RUN
name_times : (p : Standing) (at name : ℕ) (round : Round) (d : DueWatcher) → AreAll (λ entry. entry.name ≡ name_of p entry.watcher) round.due
    → times name (name_if p (watcher_at at round)) ≡ starts (Start at) name round
name_times p at name round d named = elim (slice_get_cases round.due at).1 [
  | inl found ↦ rw found.2 (here found.0 (subst (λ (entry : DueWatcher). entry.name ≡ name_of p entry.watcher) found.3
      (all_at (λ entry. entry.name ≡ name_of p entry.watcher) round.due at found.0 named found.1)))
  | inr past ↦ rw past.1 refl
]
  where
    none_more : (k : ℕ) → k + 0 ≡ k
    none_more k = omega arith

    here : (entry : DueWatcher) → entry.name ≡ name_of p entry.watcher
        → (if name_of p entry.watcher == name then 1 else 0) + 0 ≡ (if entry.name == name then 1 else 0)
    here entry is = rw (← is) (none_more (if entry.name == name then 1 else 0))

times_both : (name : ℕ) (xs ys : List ℕ) → times name (xs ++ ys) ≡ times name xs + times name ys
times_both name [] ys = omega arith
times_both name (x ∷ xs) ys = let rest = times_both name xs ys in omega arith

times_unless : (name : ℕ) (due : List DueWatcher) (xs : List ℕ) → times name (none_unless_due due xs) ≤ times name xs
times_unless name [] xs = omega arith
times_unless name (entry ∷ due) xs = omega arith

among_unless : (name : ℕ) (due : List DueWatcher) (xs : List ℕ) → Among name (none_unless_due due xs) → Among name xs
among_unless name [] xs among = absurd among
among_unless name (entry ∷ due) xs among = among

module _ {P : Type 0} (given : List ℕ) (names actions : ℕ) (m : Meaning P) where
  each_few : (n : ℕ) (r : Running P) → Holds given names actions r → (name : ℕ) → times name (names_run m n r) + runs_at r.round name ≤ 8
  unfolding names_run runs_at
  each_few zero r h name = let most = h.round.most name in omega arith
  each_few (suc n) r h name =
      let next = run_holds given names actions m r h in
      let rest = each_few n (run m r).next next.0 name in
      let more = next.1 name in
      let fewer = times_unless name r.round.due (name_if r.standing (watcher_at (chosen m r) r.round) ++ names_run m n (run m r).next) in
      let both = times_both name (name_if r.standing (watcher_at (chosen m r) r.round)) (names_run m n (run m r).next) in
      let one = name_times r.standing (chosen m r) name r.round (record { watcher = 0; name = 0 })
      (all_map _ (λ entry. entry.name ≡ name_of r.standing entry.watcher) (λ entry due. due.1) r.round.due h.due) in
      omega arith

  -- who runs has a name that is given
  name_given : (p : Standing) (at name : ℕ) (round : Round) → AreGiven given names p
      → AreAll (λ entry. is_watcher (slot_at p.state.market entry.watcher) ≡ true) round.due
      → Among name (name_if p (watcher_at at round)) → Among name given
  name_given p at name round are live = elim (slice_get_cases round.due at).1 [
    | inl found ↦ rw found.2 (λ among. elim among [
      | inl same ↦ subst (λ (x : ℕ). Among x given) (sym same) (are.named found.0.watcher
          (subst (λ (entry : DueWatcher). is_watcher (slot_at p.state.market entry.watcher) ≡ true) found.3
          (all_at (λ entry. is_watcher (slot_at p.state.market entry.watcher) ≡ true) round.due at found.0 live found.1))).1
      | inr none ↦ absurd none
    ])
    | inr past ↦ rw past.1 (λ among. absurd among)
  ]

  all_given : (n : ℕ) (r : Running P) → Holds given names actions r → (name : ℕ) → Among name (names_run m n r) → Among name given
  unfolding names_run
  all_given zero r h name among = absurd among
  all_given (suc n) r h name among =
      elim (among_either name (name_if r.standing (watcher_at (chosen m r) r.round)) (names_run m n (run m r).next)
      (among_unless name r.round.due _ among)) [
        | inl first ↦ name_given r.standing (chosen m r) name r.round h.stands.watchers
            (all_map _ (λ entry. is_watcher (slot_at r.standing.state.market entry.watcher) ≡ true) (λ entry due. due.0) r.round.due h.due) first
        | inr later ↦ all_given n (run m r).next (run_holds given names actions m r h).0 name later
      ]

  -- a round begins
  open_holds : (r : Running P) → Stands given names actions r.standing → Holds given names actions (opened r)
  unfolding opened
  open_holds r s = record {
    stands = handed_out given names actions r.standing s;
    counted = length-replicate (length r.standing.names) blank ∙ s.names;
    nodes = 0;
    round = round_empty (length r.standing.names) 0 (read_blank (length r.standing.names));
    due = tt;
    idle = refl;
  }

  pub first_keeps : (r : Running P) (c : Command) → Stands given names actions r.standing → IsOf given names actions c
      → Keeps given names actions (opened r) (course_of m (opened r) c).next
  first_keeps r c s is = done_holds given names actions m (opened r) c (open_holds r s) is

  pub round_ends : IsPicking m → (r : Running P) (c : Command) → Stands given names actions r.standing → IsOf given names actions c
      → (runs_by m (most_runs r) (course_of m (opened r) c).next).next.round.due ≡ []
  unfolding opened
  round_ends picking r c s is =
      runs_end given names actions m picking (most_runs r) (course_of m (opened r) c).next (first_keeps r c s is).holds (
      let left = done_left m (opened r) c in
      let most = eight_each (opened r).round in let long = length-replicate (length r.standing.names) blank in omega arith)

  -- THE ROUND of a command
  pub round_over : IsPicking m → (r : Running P) (c : Command) → Stands given names actions r.standing → IsOf given names actions c
      → IsOver m given r c × Stands given names actions (round_of m r c).next.standing
  unfolding round_of and_then
  round_over picking r c s is =
      let first = (first_keeps r c s is).holds in (
        record {
          ends = round_ends picking r c s is;
          each = λ name. let few = each_few (most_runs r) (course_of m (opened r) c).next first name in omega arith;
          together = few_together given (names_run_in m r c) (all_given (most_runs r) (course_of m (opened r) c).next first)
              (λ name. let few = each_few (most_runs r) (course_of m (opened r) c).next first name in omega arith);
        },
        (runs_hold given names actions m (most_runs r) (course_of m (opened r) c).next first).stands,
      )

  pub all_over : IsPicking m → (commands : List Command) (r : Running P) → Stands given names actions r.standing
      → All (IsOf given names actions) commands → AreOver m given r commands
  all_over picking [] r s all = tt
  all_over picking (c ∷ commands) r s all =
      let first = round_over picking r c s (All-head (IsOf given names actions) c commands all) in
      (first.0, all_over picking commands (round_of m r c).next first.1 (All-tail (IsOf given names actions) c commands all))

-- EVERY ROUND ENDS
pub every_round : {P : Type 0} → (m : Meaning P) → IsPicking m → EveryRoundEnds m
every_round m picking picker today names made actions commands blocks known =
    let inner = names_in_all actions in
    let outer = names_in commands in
    let given = names_of_watchers actions commands in
    all_over given (length names) (length actions) m picking commands (running picker (start_with today names made actions))
    (stands_first given (length names) (length actions) today names made actions refl
    (blocks_of given (length names) (length actions) actions
    (λ name among. once_among name (inner ++ outer) (among_left name inner outer among)) blocks))
    (commands_of given (length names) (length actions) commands
    (λ name among. once_among name (inner ++ outer) (among_right name inner outer among)) known)
