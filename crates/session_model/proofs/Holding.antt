-- What holds of a session while a round runs in it: who is due is a live watcher whose name has a run left.
use Rattle.std.proofs.Common.{◌≡◌, inl, inr, ℕ, zero, suc, ◌+◌, ◌<◌, true, List, [], ◌∷◌, length, Option, Some, None, refl, sym, ◌∙◌, ap, subst, arith}
use Rattle.std.specs.Prelude.{slice_get, slice_index_or, All}
use Rattle.std.proofs.lemmas.List.Elements.{All-nil, All-head, All-tail}
use Rattle.walks.specs.Walk.{Among}
use Rattle.desk_terms.specs.Reading.{Calc}
use Rattle.desk_model.specs.Market.{slot_at, is_watcher}
use Rattle.desk_model.specs.Told.{is_watching}
use Rattle.session_commands.specs.declared.command.Command.{Command}
use Rattle.watch_rounds.specs.declared.rounds.DueWatcher.{DueWatcher}
use Rattle.watch_rounds.specs.Due.{AreAll, IsOnly}
use Rattle.watch_rounds.specs.Round.{watcher_at, with_notice, with_run}
use Rattle.watch_rounds.specs.Course.{Start, starts}
use Rattle.watch_rounds.proofs.Places.{all_map, all_filtered}
use Rattle.watch_rounds.proofs.Stays.{round_filtered, round_roomier, notice_long, notice_all, ran_long, ran_all}
use Rattle.watch_rounds.proofs.Courses.{AreRound, runs_at, told, ran}
use Rattle.session_model.specs.Standing.{Standing, name_of}
use Rattle.session_model.specs.Turn.{turn}
use Rattle.session_model.specs.Course.{Running, Meaning, Course, and_then, taken, notice, noticed, heard, all_handed_out, course_of, course_of_all, chosen, begun, commands_of, action_of, run, unless_none, runs_by}
use Rattle.session_model.proofs.Live.{acted_live, acted_named}
use Rattle.session_model.proofs.Given.{AreGiven, IsOf, watcher_low, given_turn, told_turn, names_turn, actions_turn}

-- a due watcher is live, and was told by its name
abbrev IsDueOf : Standing → DueWatcher → Type 0
IsDueOf p entry = (is_watcher (slot_at p.state.market entry.watcher) ≡ true) × (entry.name ≡ name_of p entry.watcher)

-- between rounds
pub record Stands (given : List ℕ) (n a : ℕ) (p : Standing) : Type 0 where
  pub watchers : AreGiven given n p
  pub blocks : All (λ block. All (IsOf given n a) block) p.actions
  pub names : length p.names ≡ n

-- in a round
pub record Holds {P : Type 0} (given : List ℕ) (n a : ℕ) (r : Running P) : Type 0 where
  pub stands : Stands given n a r.standing
  pub counted : length r.round.tallies ≡ n
  pub nodes : ℕ
  pub round : AreRound r.round nodes
  pub due : AreAll (IsDueOf r.standing) r.round.due
  pub idle : r.standing.state.noticed ≡ []

-- the same, and no name has run more or less
pub record Keeps {P : Type 0} (given : List ℕ) (n a : ℕ) (old new : Running P) : Type 0 where
  pub holds : Holds given n a new
  pub runs : (name : ℕ) → runs_at new.round name ≡ runs_at old.round name

module _ (given : List ℕ) (n a : ℕ) where
  stands_turn : (calc : Calc) (p : Standing) (c : Command) → Stands given n a p → IsOf given n a c
      → Stands given n a (turn calc p c).next
  stands_turn calc p c s is = record {
    watchers = given_turn given n a p s.watchers calc c is;
    blocks = subst (λ (blocks : List (List Command)). All (λ block. All (IsOf given n a) block) blocks) (sym (actions_turn calc p c)) s.blocks;
    names = ap (λ (names : List (List ℕ)). length names) (names_turn calc p c) ∙ s.names;
  }

  -- no notice is left
  pub handed_out : (p : Standing) → Stands given n a p → Stands given n a (all_handed_out p)
  handed_out p s = record {
    watchers = record { size = s.watchers.size; named = s.watchers.named; alone = s.watchers.alone };
    blocks = s.blocks;
    names = s.names;
  }

  -- what an action holds
  block_at : (blocks : List (List Command)) (i : ℕ) → All (λ block. All (IsOf given n a) block) blocks
      → All (IsOf given n a) (slice_index_or blocks i [])
  block_at [] zero all = All-nil (IsOf given n a)
  block_at [] (suc i) all = All-nil (IsOf given n a)
  block_at (block ∷ blocks) zero all = All-head (λ block. All (IsOf given n a) block) block blocks all
  block_at (block ∷ blocks) (suc i) all = block_at blocks i (All-tail (λ block. All (IsOf given n a) block) block blocks all)

  commands_at : (blocks : List (List Command)) (action : Option ℕ) → All (λ block. All (IsOf given n a) block) blocks
      → All (IsOf given n a) (commands_of blocks action)
  commands_at blocks None all = All-nil (IsOf given n a)
  commands_at blocks (Some action) all = block_at blocks action all

  pub action_at : (p : Standing) (o : Option ℕ) → Stands given n a p → All (IsOf given n a) (action_of p o)
  action_at p None s = All-nil (IsOf given n a)
  action_at p (Some w) s = commands_at p.actions (slice_index_or p.watching (name_of p w) None) s.blocks

module _ {P : Type 0} (given : List ℕ) (n a : ℕ) where
  -- the turn of a command, without its notices
  taken_holds : (calc : Calc) (r : Running P) (c : Command) → Holds given n a r → IsOf given n a c
      → Holds given n a (record r {
        standing = all_handed_out (turn calc r.standing c).next;
        round = (taken (turn calc r.standing c) r).next.round;
      })
  taken_holds calc r c h is = record {
    stands = handed_out given n a _ (stands_turn given n a calc r.standing c h.stands is);
    counted = h.counted;
    nodes = h.nodes;
    round = round_filtered r.round.due r.round.tallies h.nodes (λ entry. is_watching (turn calc r.standing c).next.state entry.watcher) h.round;
    due = all_filtered (IsDueOf r.standing) (IsDueOf (turn calc r.standing c).next)
        (λ entry. is_watching (turn calc r.standing c).next.state entry.watcher)
        (λ entry due watching. (
          acted_live calc r.standing c entry.watcher due.0 watching,
          due.1 ∙ sym (acted_named calc r.standing c entry.watcher
              (let size = h.stands.watchers.size in let low = watcher_low r.standing.state.market entry.watcher due.0 in omega arith)),
        )) r.round.due h.due;
    idle = refl;
  }

  notice_holds : (w : ℕ) (r : Running P) → Holds given n a r → is_watcher (slot_at r.standing.state.market w) ≡ true
      → Keeps given n a r (notice w r).next
  notice_holds w r h live = record {
    holds = record {
      stands = h.stands;
      counted = notice_long w (name_of r.standing w) r.round ∙ h.counted;
      nodes = h.nodes + w + 1;
      round = kept.0;
      due = notice_all (IsDueOf r.standing) w (name_of r.standing w) r.round h.due (live, refl);
      idle = h.idle;
    };
    runs = kept.1;
  }
    where
      only : IsOnly w (name_of r.standing w) r.round.due
      only = all_map (IsDueOf r.standing) _ (λ one is. (
        (λ same. is.1 ∙ ap (name_of r.standing) same),
        (λ same. h.stands.watchers.alone one.watcher w is.0 live (sym is.1 ∙ same)),
      )) r.round.due h.due

      low : name_of r.standing w < length r.round.tallies
      low = let counted = h.counted in let named = (h.stands.watchers.named w live).0 in omega arith

      kept : AreRound (with_notice w (name_of r.standing w) r.round) (h.nodes + w + 1)
          × ((other : ℕ) → runs_at (with_notice w (name_of r.standing w) r.round) other ≡ runs_at r.round other)
      kept = told (h.nodes + w + 1) w (name_of r.standing w) r.round (omega arith, low, only)
          (round_roomier r.round.due r.round.tallies h.nodes (h.nodes + w + 1) (omega arith) h.round)

  noticed_holds : (ws : List ℕ) (r : Running P) → Holds given n a r
      → ((w : ℕ) → Among w ws → is_watcher (slot_at r.standing.state.market w) ≡ true) → Keeps given n a r (noticed ws r).next
  unfolding noticed and_then
  noticed_holds [] r h live = record { holds = h; runs = λ name. refl }
  noticed_holds (w ∷ ws) r h live =
      let first = notice_holds w r h (live w (inl refl)) in
      let rest = noticed_holds ws (notice w r).next first.holds (λ v among. live v (inr among)) in
      record { holds = rest.holds; runs = λ name. rest.runs name ∙ first.runs name }

  pub done_holds : (m : Meaning P) (r : Running P) (c : Command) → Holds given n a r → IsOf given n a c
      → Keeps given n a r (course_of m r c).next
  unfolding course_of and_then heard runs_at
  done_holds m r c h is =
      let rest = noticed_holds (turn m.calc r.standing c).next.state.noticed _ (taken_holds m.calc r c h is)
      (λ w among. told_turn m.calc r.standing c h.idle w among) in
      record { holds = rest.holds; runs = rest.runs }

  pub all_done_holds : (m : Meaning P) (commands : List Command) (r : Running P) → Holds given n a r → All (IsOf given n a) commands
      → Keeps given n a r (course_of_all m commands r).next
  unfolding course_of_all and_then
  all_done_holds m [] r h all = record { holds = h; runs = λ name. refl }
  all_done_holds m (c ∷ commands) r h all =
      let first = done_holds m r c h (All-head (IsOf given n a) c commands all) in
      let rest = all_done_holds m commands (course_of m r c).next first.holds (All-tail (IsOf given n a) c commands all) in
      record { holds = rest.holds; runs = λ name. rest.runs name ∙ first.runs name }

  begun_holds : (m : Meaning P) (r : Running P) → Holds given n a r → Holds given n a (begun m r)
  unfolding begun with_run
  begun_holds m r h = record {
    stands = h.stands;
    counted = ran_long (slice_get r.round.due (chosen m r)) (chosen m r) r.round ∙ h.counted;
    nodes = h.nodes;
    round = (ran h.nodes (chosen m r) r.round h.round).0;
    due = ran_all (IsDueOf r.standing) (slice_get r.round.due (chosen m r)) (chosen m r) r.round refl h.due;
    idle = h.idle;
  }

  -- A RUN: the name of its watcher has run once more
  pub run_holds : (m : Meaning P) (r : Running P) → Holds given n a r → Holds given n a (run m r).next
      × ((name : ℕ) → runs_at (run m r).next.round name ≡ runs_at r.round name + starts (Start (chosen m r)) name r.round)
  unfolding run begun
  run_holds m r h =
      let first = begun_holds m r h in
      let rest = all_done_holds m (action_of r.standing (watcher_at (chosen m r) r.round)) (begun m r) first
      (action_at given n a r.standing (watcher_at (chosen m r) r.round) h.stands) in
      (rest.holds, λ name. rest.runs name ∙ more name)
    where
      more : (name : ℕ) → runs_at (begun m r).round name ≡ runs_at r.round name + starts (Start (chosen m r)) name r.round
      more name = (ran h.nodes (chosen m r) r.round h.round).1 name

  unless_holds : (due : List DueWatcher) (r : Running P) (course : Course P) → Holds given n a r → Holds given n a course.next
      → Holds given n a (unless_none due r course).next
  unless_holds [] r course first rest = first
  unless_holds (entry ∷ due) r course first rest = rest

  pub runs_hold : (m : Meaning P) (k : ℕ) (r : Running P) → Holds given n a r → Holds given n a (runs_by m k r).next
  unfolding runs_by and_then
  runs_hold m zero r h = h
  runs_hold m (suc k) r h = unless_holds r.round.due r (and_then (run m r) (runs_by m k)) h (runs_hold m k (run m r).next (run_holds m r h).0)
