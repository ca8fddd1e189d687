-- A round does not depend on names and actions that come later.
use Rattle.std.proofs.Common.{◌≡◌, inl, inr, ℕ, zero, suc, ◌<◌, true, List, [], ◌∷◌, ◌++◌, length, get_or, replicate, Option, Some, None, refl, sym, ◌∙◌, ap, subst, arith}
use Rattle.std.specs.Prelude.{slice_get, All}
use Rattle.std.proofs.lemmas.List.{get_or_append_left, set-append_left, replicate-append-replicate, length-append, length-replicate}
use Rattle.std.proofs.lemmas.List.Elements.{All-head, All-tail}
use Rattle.watch_rounds.specs.declared.rounds.DueWatcher.{DueWatcher}
use Rattle.watch_rounds.specs.declared.tally.Tally.{Tally}
use Rattle.watch_rounds.specs.declared.notice.Notice.{Notice}
use Rattle.watch_rounds.specs.declared.notice.Notice.TheVariants as notices
use Rattle.watch_rounds.specs.Round.{Round, MayRun, blank, tally_at, notice_of, with_notice_as, with_notice, one_more, run_of, with_run, watcher_at}
use Rattle.watch_rounds.proofs.Places.{all_at}
use Rattle.watch_rounds.proofs.Stays.{view_of, notice_long, ran_long}
use Rattle.std.proofs.lemmas.Option.{slice_get_cases}
use Rattle.session_commands.specs.declared.command.Command.{Command}
use Rattle.session_commands.specs.Whole.{IsCommand}
use Rattle.session_model.specs.Standing.{Standing, name_of}
use Rattle.session_model.specs.Turn.{Turn, turn}
use Rattle.session_model.specs.Course.{Running, Meaning, Course, before, and_then, taken, over_lines, notice, noticed, all_handed_out, heard, course_of, course_of_all, chosen, begun, commands_of, action_of, run, unless_none, runs_by, most_runs, opened, round_of}
use Rattle.session_model.specs.Ends.{IsPicking}
use Rattle.session_model.specs.Wider.{Later, wider, wider_round, wider_in, wider_course}
use Rattle.session_model.proofs.Given.{IsOf}
use Rattle.session_model.proofs.Holding.{Stands, Holds, run_holds, action_at}
use Rattle.session_model.proofs.Ends.{more_runs, first_keeps, round_ends}
use Rattle.session_model.proofs.Wider.{IsBelow, IsNamed, past_end, named_below, over_wider, turn_wider, named_turn}

-- THE ROUND's own: of names that are counted
module _ (more : ℕ) where
  tally_wider : (round : Round) (name : ℕ) → tally_at (wider_round more round) name ≡ tally_at round name
  tally_wider round name = past_end round.tallies more name blank

  noted_wider : (n : Notice) (watcher name : ℕ) (round : Round) → name < length round.tallies
      → with_notice_as n watcher name (wider_round more round) ≡ wider_round more (with_notice_as n watcher name round)
  noted_wider notices.Due watcher name round low = refl
  noted_wider notices.OverFirst watcher name round low =
      rw (tally_wider round name, set-append_left round.tallies (replicate more blank) name (record (tally_at round name) { over = true }) low) refl
  noted_wider notices.OverAgain watcher name round low = refl

  notice_wider_round : (watcher name : ℕ) (round : Round) → name < length round.tallies
      → with_notice watcher name (wider_round more round) ≡ wider_round more (with_notice watcher name round)
  unfolding with_notice
  notice_wider_round watcher name round low =
      ap (λ (t : Tally). with_notice_as (notice_of t) watcher name (wider_round more round)) (tally_wider round name)
      ∙ noted_wider (notice_of (tally_at round name)) watcher name round low

  ran_wider_by : (o : Option DueWatcher) (at : ℕ) (round : Round) → ((entry : DueWatcher) → o ≡ Some entry → entry.name < length round.tallies)
      → run_of o at (wider_round more round) ≡ wider_round more (run_of o at round)
  ran_wider_by None at round low = refl
  ran_wider_by (Some entry) at round low =
      rw (tally_wider round entry.name, set-append_left round.tallies (replicate more blank) entry.name (one_more (tally_at round entry.name)) (low entry refl)) refl

-- no notice is left
handed : (n a : ℕ) (p : Standing) → IsNamed n a p → IsNamed n a (all_handed_out p)
handed n a p is = record { some = is.some; names = is.names; watching = is.watching; actions = is.actions; objects = is.objects; linked = is.linked }

-- the action of a watcher is one that is there
commands_wider : (a : ℕ) (actions later : List (List Command)) (o : Option ℕ) → length actions ≡ a → IsBelow a o → commands_of (actions ++ later) o ≡ commands_of actions o
commands_wider a actions later None long low = refl
commands_wider a actions later (Some action) long low = get_or_append_left actions later [] action (omega arith)

action_wider : (later : Later) (n a : ℕ) (p : Standing) (w : Option ℕ) → IsNamed n a p → action_of (wider later p) w ≡ action_of p w
action_wider later n a p None is = refl
action_wider later n a p (Some w) is =
    ap (commands_of (p.actions ++ later.actions)) (past_end p.watching (length later.names) (name_of p w) None)
    ∙ commands_wider a p.actions later.actions (get_or p.watching (name_of p w) None) is.actions (is.linked (name_of p w))

-- a session in a round, and one whose round begins with these counts
abbrev pub at_round : {P : Type 0} → Standing → P → Round → Running P
at_round p picker round = record { standing = p; round = round; picker = picker }

abbrev pub counting : {P : Type 0} → Standing → P → List Tally → Running P
counting p picker tallies = record { standing = p; round = record { due = []; tallies = tallies }; picker = picker }

module _ {P : Type 0} (later : Later) where
  -- one after the other
  then_wider : (course other : Course P) (rest : Running P → Course P) → other ≡ wider_course later course
      → rest (wider_in later course.next) ≡ wider_course later (rest course.next) → and_then other rest ≡ wider_course later (and_then course rest)
  unfolding and_then
  then_wider course other rest first second =
      ap (λ (x : Course P). before x.lines x.calls (rest x.next)) first ∙ ap (before course.lines course.calls) second

  module _ (n a : ℕ) where
    -- of names that are there and counted
    pub record IsCounted (r : Running P) : Type 0 where
      pub named : IsNamed n a r.standing
      pub counted : length r.round.tallies ≡ n

    notice_wider : (w : ℕ) (r : Running P) → IsCounted r → notice w (wider_in later r) ≡ wider_course later (notice w r)
    notice_wider w r is =
        let low = named_below n a r.standing is.named w in
        let long = is.counted in
        let names = is.named.names in
        rw (
          tally_wider (length later.names) r.round (name_of r.standing w),
          notice_wider_round (length later.names) w (name_of r.standing w) r.round (omega arith),
          lines (notice_of (tally_at r.round (name_of r.standing w))) (name_of r.standing w) (omega arith),
        ) refl
      where
        lines : (x : Notice) (name : ℕ) → name < length r.standing.names
            → over_lines (r.standing.names ++ later.names) name x ≡ over_lines r.standing.names name x
        lines notices.Due name low = refl
        lines notices.OverFirst name low = over_wider r.standing.names later.names name low
        lines notices.OverAgain name low = refl

    counted_after : (w : ℕ) (r : Running P) → IsCounted r → IsCounted (notice w r).next
    counted_after w r is = record { named = is.named; counted = notice_long w (name_of r.standing w) r.round ∙ is.counted }

    noticed_wider : (ws : List ℕ) (r : Running P) → IsCounted r → noticed ws (wider_in later r) ≡ wider_course later (noticed ws r)
    unfolding noticed
    noticed_wider [] r is = refl
    noticed_wider (w ∷ ws) r is = then_wider (notice w r) (notice w (wider_in later r)) (noticed ws) (notice_wider w r is)
        (noticed_wider ws (notice w r).next (counted_after w r is))

    noticed_counted : (ws : List ℕ) (r : Running P) → IsCounted r → IsCounted (noticed ws r).next
    unfolding noticed and_then
    noticed_counted [] r is = is
    noticed_counted (w ∷ ws) r is = noticed_counted ws (notice w r).next (counted_after w r is)

    -- A COMMAND
    course_wider : (m : Meaning P) (r : Running P) (c : Command) → IsCounted r → IsCommand n a c
        → course_of m (wider_in later r) c ≡ wider_course later (course_of m r c)
    unfolding course_of heard
    course_wider m r c is known =
        then_wider (taken (turn m.calc r.standing c) r) (taken (turn m.calc (wider later r.standing) c) (wider_in later r)) heard
        (ap (λ (t : Turn). taken t (wider_in later r)) (turn_wider later n a m.calc r.standing is.named c known))
        (noticed_wider (turn m.calc r.standing c).next.state.noticed _
        (record { named = handed n a _ (named_turn later n a m.calc r.standing is.named c known); counted = is.counted }))

    course_counted : (m : Meaning P) (r : Running P) (c : Command) → IsCounted r → IsCommand n a c → IsCounted (course_of m r c).next
    unfolding course_of and_then heard
    course_counted m r c is known =
        noticed_counted (turn m.calc r.standing c).next.state.noticed _
        (record { named = handed n a _ (named_turn later n a m.calc r.standing is.named c known); counted = is.counted })

    -- a round that holds, of given names
    module _ (given : List ℕ) where
      all_wider : (m : Meaning P) (commands : List Command) (r : Running P) → IsCounted r → All (IsOf given n a) commands
          → course_of_all m commands (wider_in later r) ≡ wider_course later (course_of_all m commands r)
      unfolding course_of_all
      all_wider m [] r is all = refl
      all_wider m (c ∷ commands) r is all =
          let one = All-head (IsOf given n a) c commands all in
          then_wider (course_of m r c) (course_of m (wider_in later r) c) (course_of_all m commands) (course_wider m r c is one.known)
          (all_wider m commands (course_of m r c).next (course_counted m r c is one.known) (All-tail (IsOf given n a) c commands all))

      all_counted : (m : Meaning P) (commands : List Command) (r : Running P) → IsCounted r → All (IsOf given n a) commands
          → IsCounted (course_of_all m commands r).next
      unfolding course_of_all and_then
      all_counted m [] r is all = is
      all_counted m (c ∷ commands) r is all =
          all_counted m commands (course_of m r c).next (course_counted m r c is (All-head (IsOf given n a) c commands all).known)
          (All-tail (IsOf given n a) c commands all)

      due_counted : (r : Running P) → Holds given n a r → (at : ℕ) (entry : DueWatcher) → slice_get r.round.due at ≡ Some entry
          → entry.name < length r.round.tallies
      due_counted r h at entry found = elim (slice_get_cases r.round.due at).1 [
        | inl is ↦ subst (λ (e : DueWatcher). e.name < length r.round.tallies) (same is.0 (sym is.2 ∙ found))
            (subst (λ (e : DueWatcher). e.name < length r.round.tallies) is.3
            (all_at (MayRun (view_of r.round.due r.round.tallies h.nodes)) r.round.due at is.0 h.round.due is.1).1)
        | inr past ↦ absurd (let none = sym past.1 ∙ found in cc)
      ]
        where
          same : (x : DueWatcher) → Some x ≡ Some entry → x ≡ entry
          same x e = cc

      begun_wider : (m : Meaning P) (r : Running P) → Holds given n a r → begun m (wider_in later r) ≡ wider_in later (begun m r)
      unfolding begun with_run
      begun_wider m r h =
          ap (at_round (wider later r.standing) (m.after r.picker (length r.round.due)))
          (ran_wider_by (length later.names) (slice_get r.round.due (chosen m r)) (chosen m r) r.round (λ entry found. due_counted r h (chosen m r) entry found))

      begun_counted : (m : Meaning P) (r : Running P) → IsCounted r → Holds given n a r → IsCounted (begun m r)
      unfolding begun with_run
      begun_counted m r is h = record { named = is.named; counted = ran_long (slice_get r.round.due (chosen m r)) (chosen m r) r.round ∙ is.counted }

      -- ONE RUN
      run_wider : (m : Meaning P) (r : Running P) → IsCounted r → Holds given n a r → run m (wider_in later r) ≡ wider_course later (run m r)
      unfolding run
      run_wider m r is h =
          ap (λ (commands : List Command). course_of_all m commands (begun m (wider_in later r)))
          (action_wider later n a r.standing (watcher_at (chosen m r) r.round) is.named)
          ∙ ap (course_of_all m (action_of r.standing (watcher_at (chosen m r) r.round))) (begun_wider m r h)
          ∙ all_wider m (action_of r.standing (watcher_at (chosen m r) r.round)) (begun m r) (begun_counted m r is h)
          (action_at given n a r.standing (watcher_at (chosen m r) r.round) h.stands)

      run_counted : (m : Meaning P) (r : Running P) → IsCounted r → Holds given n a r → IsCounted (run m r).next
      unfolding run
      run_counted m r is h =
          all_counted m (action_of r.standing (watcher_at (chosen m r) r.round)) (begun m r) (begun_counted m r is h)
          (action_at given n a r.standing (watcher_at (chosen m r) r.round) h.stands)

      unless_wider : (due : List DueWatcher) (r : Running P) (course other : Course P) → other ≡ wider_course later course
          → unless_none due (wider_in later r) other ≡ wider_course later (unless_none due r course)
      unless_wider [] r course other is = refl
      unless_wider (entry ∷ due) r course other is = is

      runs_wider : (m : Meaning P) (k : ℕ) (r : Running P) → IsCounted r → Holds given n a r
          → runs_by m k (wider_in later r) ≡ wider_course later (runs_by m k r)
      unfolding runs_by
      runs_wider m zero r is h = refl
      runs_wider m (suc k) r is h =
          unless_wider r.round.due r (and_then (run m r) (runs_by m k)) (and_then (run m (wider_in later r)) (runs_by m k))
          (then_wider (run m r) (run m (wider_in later r)) (runs_by m k) (run_wider m r is h)
          (runs_wider m k (run m r).next (run_counted m r is h) (run_holds given n a m r h).0))

      unless_counted : (due : List DueWatcher) (r : Running P) (course : Course P) → IsCounted r → IsCounted course.next
          → IsCounted (unless_none due r course).next
      unless_counted [] r course first rest = first
      unless_counted (entry ∷ due) r course first rest = rest

      runs_counted : (m : Meaning P) (k : ℕ) (r : Running P) → IsCounted r → Holds given n a r → IsCounted (runs_by m k r).next
      unfolding runs_by and_then
      runs_counted m zero r is h = is
      runs_counted m (suc k) r is h =
          unless_counted r.round.due r (and_then (run m r) (runs_by m k)) is
          (runs_counted m k (run m r).next (run_counted m r is h) (run_holds given n a m r h).0)

      opened_wider : (r : Running P) → opened (wider_in later r) ≡ wider_in later (opened r)
      unfolding opened
      opened_wider r =
          ap (counting (wider later (all_handed_out r.standing)) r.picker) (ap (λ (k : ℕ). replicate k blank) (length-append r.standing.names later.names)
          ∙ sym (replicate-append-replicate (length r.standing.names) (length later.names) blank))

      -- THE ROUND OF A COMMAND
      pub round_wider : (m : Meaning P) → IsPicking m → (r : Running P) (c : Command) → IsNamed n a r.standing → Stands given n a r.standing
          → IsOf given n a c → round_of m (wider_in later r) c ≡ wider_course later (round_of m r c)
      unfolding round_of and_then opened
      round_wider m picking r c named s is =
          then_wider (course_of m (opened r) c) (course_of m (opened (wider_in later r)) c) (runs_by m (most_runs (wider_in later r)))
          (ap (λ (x : Running P). course_of m x c) (opened_wider r) ∙ course_wider m (opened r) c counts is.known)
          (runs_wider m (most_runs (wider_in later r)) (course_of m (opened r) c).next (course_counted m (opened r) c counts is.known) (first_keeps given n a m r c s is).holds)
          ∙ ap (λ (x : Course P). wider_course later (before (course_of m (opened r) c).lines (course_of m (opened r) c).calls x))
          (more_runs m (most_runs r) (most_runs (wider_in later r)) (course_of m (opened r) c).next
          (let long = length-append r.standing.names later.names in omega arith) (round_ends given n a m picking r c s is))
        where
          counts : IsCounted (opened r)
          counts = record { named = handed n a r.standing named; counted = length-replicate (length r.standing.names) blank ∙ named.names }

      pub round_named : (m : Meaning P) → (r : Running P) (c : Command) → IsNamed n a r.standing → Stands given n a r.standing
          → IsOf given n a c → IsNamed n a (round_of m r c).next.standing
      unfolding round_of and_then opened
      round_named m r c named s is =
          (runs_counted m (most_runs r) (course_of m (opened r) c).next
          (course_counted m (opened r) c (record { named = handed n a r.standing named; counted = length-replicate (length r.standing.names) blank ∙ named.names }) is.known)
          (first_keeps given n a m r c s is).holds).named
