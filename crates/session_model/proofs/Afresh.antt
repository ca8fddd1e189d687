-- A session in which no command freezes or defers, at the top or in an action.
use Rattle.std.proofs.Common.{◌≡◌, ℕ, zero, suc, ℤ, Bool, true, false, List, [], ◌∷◌, ◌++◌, Option, Some, None, Result, Ok, Err, refl, sym, subst}
use Rattle.std.specs.Prelude.{if◌then◌else◌, All, is_some, slice_index_or}
use Rattle.std.proofs.lemmas.List.Elements.{All-nil, All-cons, All-head, All-tail, All-append}
use Rattle.desk_terms.specs.declared.terms.Terms.{Terms}
use Rattle.desk_terms.specs.Reading.{Calc}
use Rattle.desk_model.specs.State.{State, is_frozen, is_source}
use Rattle.desk_model.specs.Effect as effect
use Rattle.desk_model.specs.Unheld.{HoldsNothing}
use Rattle.desk_model.proofs.Unheld.{others_hold_nothing, unheld_afresh, start_unheld}
use Rattle.session_commands.specs.declared.command.Command.{Command}
use Rattle.session_commands.specs.declared.command.Command.TheVariants as command
use Rattle.session_commands.specs.declared.refusal.Refusal.{Refusal}
use Rattle.watch_rounds.specs.declared.rounds.DueWatcher.{DueWatcher}
use Rattle.watch_rounds.specs.Round.{watcher_at}
use Rattle.session_model.specs.declared.act.Act.{Act}
use Rattle.session_model.specs.Afresh.{holds_nothing, Answers, AreAskedAfresh}
use Rattle.session_model.specs.Change.{changed, grown}
use Rattle.session_model.specs.Course.{Running, Meaning, Course, quiet, taken, notice, noticed, heard, all_handed_out, and_then, course_of, course_of_all, chosen, begun, commands_of, action_of, run, unless_none, runs_by, most_runs, opened, round_of}
use Rattle.session_model.specs.Moments.{Moment, moment_of, moments_of_all, moments_of_run, none_unless_due, moments_of_runs, moments_of_round, moments}
use Rattle.session_model.specs.Resolve.{with_found, unless, unless_used, unless_kept, unless_late, unless_taken, resolve}
use Rattle.session_model.specs.Standing.{Standing, start_of, start_with, with_objects, object_named, name_of}
use Rattle.session_model.specs.Turn.{done_as, effect_of, step, turn}
use Rattle.session_model.proofs.Answered.{asked_afresh, answered}

-- what a command leaves, by what it resolves to
module _ (calc : Calc) (p : Standing) (c : Command) where
  abbrev Leaves : Result Act Refusal → Type 0
  Leaves r = HoldsNothing (done_as calc p c r).next.state

  pub found_leaves : (r : Result ℕ Refusal) (go : ℕ → Result Act Refusal) → HoldsNothing p.state
      → ((x : ℕ) → Leaves (go x)) → Leaves (with_found r go)
  unfolding with_found
  found_leaves (Ok x) go none each = each x
  found_leaves (Err refusal) go none each = none

  if_leaves : (b : Bool) (refusal : Refusal) (r : Result Act Refusal) → HoldsNothing p.state → Leaves r
      → Leaves (if b then Err refusal else r)
  if_leaves true refusal r none done = none
  if_leaves false refusal r none done = done

  pub unless_leaves : (b : Bool) (refusal : Refusal) (a : Act) → HoldsNothing p.state → Leaves (Ok a)
      → Leaves (unless b refusal a)
  unfolding unless
  unless_leaves b refusal a none done = if_leaves b refusal (Ok a) none done

  pub taken_leaves : (name : ℕ) (r : Result Act Refusal) → HoldsNothing p.state → Leaves r
      → Leaves (unless_taken p name r)
  unfolding unless_taken
  taken_leaves name r none done = if_leaves (is_some (object_named p name)) _ r none done

  pub used_leaves : (user : Option ℕ) (a : Act) → HoldsNothing p.state → Leaves (Ok a) → Leaves (unless_used user a)
  unfolding unless_used
  used_leaves (Some user) a none done = none
  used_leaves None a none done = done

  pub kept_leaves : (rate : Option ℤ) (a : Act) → HoldsNothing p.state → Leaves (Ok a) → Leaves (unless_kept rate a)
  unfolding unless_kept
  kept_leaves (Some rate) a none done = none
  kept_leaves None a none done = done

  pub late_leaves : (source : Option ℕ) (a : Act) → HoldsNothing p.state → Leaves (Ok a) → Leaves (unless_late source a)
  unfolding unless_late
  late_leaves (Some source) a none done = none
  late_leaves None a none done = done

turn_unheld : (calc : Calc) (p : Standing) (c : Command) → holds_nothing c ≡ true → HoldsNothing p.state
    → HoldsNothing (turn calc p c).next.state
unfolding turn resolve effect_of step changed grown
turn_unheld calc p (command.Quote name value) plain none =
    taken_leaves calc p _ name _ none (unless_leaves calc p _ _ _ _ none ((others_hold_nothing p.state none).make _))
turn_unheld calc p (command.Sum name a b) plain none =
    taken_leaves calc p _ name _ none
    (found_leaves calc p _ _ _ none (λ x. found_leaves calc p _ _ _ none (λ y. unless_leaves calc p _ _ _ _ none ((others_hold_nothing p.state none).make _))))
turn_unheld calc p (command.Difference name a b) plain none =
    taken_leaves calc p _ name _ none
    (found_leaves calc p _ _ _ none (λ x. found_leaves calc p _ _ _ none (λ y. unless_leaves calc p _ _ _ _ none ((others_hold_nothing p.state none).make _))))
turn_unheld calc p (command.Handle name is_curve) plain none =
    taken_leaves calc p _ name _ none (unless_leaves calc p _ _ _ _ none ((others_hold_nothing p.state none).make _))
turn_unheld calc p (command.Stock name q) plain none =
    taken_leaves calc p _ name _ none
    (found_leaves calc p _ _ _ none (λ x. unless_leaves calc p _ _ _ _ none ((others_hold_nothing p.state none).make _)))
turn_unheld calc p (command.Composite name) plain none =
    taken_leaves calc p _ name _ none (unless_leaves calc p _ _ _ _ none ((others_hold_nothing p.state none).make _))
turn_unheld calc p (command.Member k i weight) plain none =
    found_leaves calc p _ _ _ none (λ x. found_leaves calc p _ _ _ none (λ y. unless_leaves calc p _ _ _ _ none ((others_hold_nothing p.state none).member x y weight)))
turn_unheld calc p (command.Set q value) plain none =
    found_leaves calc p _ _ _ none (λ x. (others_hold_nothing p.state none).quote x (Some value))
turn_unheld calc p (command.Unset q) plain none =
    found_leaves calc p _ _ _ none (λ x. (others_hold_nothing p.state none).quote x None)
turn_unheld calc p (command.Link h t) plain none =
    found_leaves calc p _ _ _ none (λ x. found_leaves calc p _ _ _ none (λ y. unless_leaves calc p _ _ _ _ none ((others_hold_nothing p.state none).link x (Some y))))
turn_unheld calc p (command.Unlink h) plain none =
    found_leaves calc p _ _ _ none (λ x. (others_hold_nothing p.state none).link x None)
turn_unheld calc p (command.Engine i None) plain none =
    found_leaves calc p _ _ _ none (λ x. (others_hold_nothing p.state none).engine x None)
turn_unheld calc p (command.Engine i (Some e)) plain none =
    found_leaves calc p _ _ _ none (λ x. found_leaves calc p _ _ _ none (λ y. (others_hold_nothing p.state none).engine x (Some y)))
turn_unheld calc p (command.Today day) plain none = (others_hold_nothing p.state none).today day
turn_unheld calc p (command.Fixing x day rate) plain none =
    found_leaves calc p _ _ _ none (λ y. kept_leaves calc p _ _ _ none ((others_hold_nothing p.state none).fixing y day rate))
turn_unheld calc p (command.Freeze o) plain none = absurd (cc)
turn_unheld calc p (command.Thaw o) plain none =
    found_leaves calc p _ _ _ none (λ x. (others_hold_nothing p.state none).thaw x)
turn_unheld calc p (command.Recalc o) plain none =
    found_leaves calc p _ _ _ none (λ x. late_leaves calc p _ _ _ none ((others_hold_nothing p.state none).recalc calc x))
turn_unheld calc p (command.Forward o is_on) plain none =
    found_leaves calc p _ _ _ none (λ x. (others_hold_nothing p.state none).forward x is_on)
turn_unheld calc p command.Defer plain none = absurd (cc)
turn_unheld calc p command.Resume plain none = (others_hold_nothing p.state none).resume
turn_unheld calc p (command.Watch w action) plain none =
    taken_leaves calc p _ w _ none (unless_leaves calc p _ _ _ _ none (others_hold_nothing p.state none).watch)
turn_unheld calc p (command.Register w o) plain none =
    found_leaves calc p _ _ _ none (λ x. found_leaves calc p _ _ _ none (λ y. unless_leaves calc p _ _ _ _ none ((others_hold_nothing p.state none).register x y)))
turn_unheld calc p (command.Unregister w o) plain none =
    found_leaves calc p _ _ _ none (λ x. found_leaves calc p _ _ _ none (λ y. unless_leaves calc p _ _ _ _ none ((others_hold_nothing p.state none).unregister x y)))
turn_unheld calc p (command.Drop o) plain none =
    found_leaves calc p _ _ _ none (λ x. used_leaves calc p _ _ _ none ((others_hold_nothing p.state none).drop x))
turn_unheld calc p (command.Ask o) plain none =
    found_leaves calc p _ _ _ none (λ x. (others_hold_nothing p.state none).ask calc x)
turn_unheld calc p (command.Df c day) plain none =
    found_leaves calc p _ _ _ none (λ x. (others_hold_nothing p.state none).ask calc x)

-- a session that holds nothing back, and whose actions neither freeze nor defer
record IsPlain (p : Standing) : Type 0 where
  pub unheld : HoldsNothing p.state
  pub actions : All (λ action. All (λ c. holds_nothing c ≡ true) action) p.actions

effect_actions : (calc : Calc) (p : Standing) (c : Command) (r : Result Act Refusal) → (done_as calc p c r).next.actions ≡ p.actions
unfolding effect_of
effect_actions calc p c (Ok a) = refl
effect_actions calc p c (Err refusal) = refl

turn_actions : (calc : Calc) (p : Standing) (c : Command) → (turn calc p c).next.actions ≡ p.actions
unfolding turn
turn_actions calc p c = effect_actions calc p c (resolve p c)

handed_unheld : (s : State) → HoldsNothing s → HoldsNothing (record s { noticed = [] })
unfolding is_frozen is_source
handed_unheld s none = record { off = none.off; free = none.free }

noticed_standing : {P : Type 0} → (ws : List ℕ) (r : Running P) → (noticed ws r).next.standing ≡ r.standing
unfolding noticed and_then
noticed_standing [] r = refl
noticed_standing (w ∷ ws) r = noticed_standing ws (notice w r).next

heard_standing : {P : Type 0} → (r : Running P) → (heard r).next.standing ≡ all_handed_out r.standing
unfolding heard
heard_standing r = noticed_standing r.standing.state.noticed (record r { standing = all_handed_out r.standing })

done_plain : {P : Type 0} → (m : Meaning P) (r : Running P) (c : Command) → holds_nothing c ≡ true → IsPlain r.standing
    → IsPlain (course_of m r c).next.standing
unfolding course_of and_then
done_plain m r c is plain = subst IsPlain (sym (heard_standing (taken (turn m.calc r.standing c) r).next)) (record {
  unheld = handed_unheld (turn m.calc r.standing c).next.state (turn_unheld m.calc r.standing c is plain.unheld);
  actions = subst (λ (a : List (List Command)). All (λ action. All (λ d. holds_nothing d ≡ true) action) a)
      (sym (turn_actions m.calc r.standing c)) plain.actions;
})

afresh_at : (calc : Calc) (p : Standing) → IsPlain p → AreAskedAfresh calc p
afresh_at calc p plain name object = asked_afresh calc p name object (unheld_afresh p.state plain.unheld calc object)

-- what holds of a course: each of its moments is answered afresh, and the session that it leaves is plain
record IsPlainCourse (P : Type 0) (calc : Calc) (course : Course P) (xs : List Moment) : Type 0 where
  pub each : All (λ x. AreAskedAfresh calc x.standing) xs
  pub next : IsPlain course.next.standing

none_plain : {P : Type 0} → (calc : Calc) (r : Running P) → IsPlain r.standing → IsPlainCourse P calc (quiet r) []
none_plain calc r plain = record { each = All-nil (λ x. AreAskedAfresh calc x.standing); next = plain }

both_plain : {P : Type 0} → (calc : Calc) (course : Course P) (rest : Running P → Course P) (xs ys : List Moment)
    → IsPlainCourse P calc course xs → IsPlainCourse P calc (rest course.next) ys → IsPlainCourse P calc (and_then course rest) (xs ++ ys)
unfolding and_then
both_plain calc course rest xs ys first second = record {
  each = All-append (λ x. AreAskedAfresh calc x.standing) xs ys first.each second.each;
  next = second.next;
}

moment_plain : {P : Type 0} → (m : Meaning P) (r : Running P) (c : Command) → holds_nothing c ≡ true → IsPlain r.standing
    → IsPlainCourse P m.calc (course_of m r c) (moment_of m r c ∷ [])
moment_plain m r c is plain = record {
  each = All-cons (λ x. AreAskedAfresh m.calc x.standing) (moment_of m r c) [] (afresh_at m.calc r.standing plain)
      (All-nil (λ x. AreAskedAfresh m.calc x.standing));
  next = done_plain m r c is plain;
}

all_plain : {P : Type 0} → (m : Meaning P) (commands : List Command) (r : Running P) → All (λ c. holds_nothing c ≡ true) commands
    → IsPlain r.standing → IsPlainCourse P m.calc (course_of_all m commands r) (moments_of_all m commands r)
unfolding course_of_all moments_of_all
all_plain m [] r is plain = none_plain m.calc r plain
all_plain m (c ∷ commands) r is plain =
    let first = moment_plain m r c (All-head (λ d. holds_nothing d ≡ true) c commands is) plain in
    both_plain m.calc (course_of m r c) (course_of_all m commands) (moment_of m r c ∷ []) (moments_of_all m commands (course_of m r c).next) first
    (all_plain m commands (course_of m r c).next (All-tail (λ d. holds_nothing d ≡ true) c commands is) first.next)

-- the commands of an action of these
action_plain : (actions : List (List Command)) (a : ℕ) → All (λ action. All (λ c. holds_nothing c ≡ true) action) actions
    → All (λ c. holds_nothing c ≡ true) (slice_index_or actions a [])
action_plain [] zero is = All-nil (λ c. holds_nothing c ≡ true)
action_plain [] (suc a) is = All-nil (λ c. holds_nothing c ≡ true)
action_plain (action ∷ actions) zero is = All-head (λ some. All (λ c. holds_nothing c ≡ true) some) action actions is
action_plain (action ∷ actions) (suc a) is =
    action_plain actions a (All-tail (λ some. All (λ c. holds_nothing c ≡ true) some) action actions is)

commands_plain : (actions : List (List Command)) (a : Option ℕ) → All (λ action. All (λ c. holds_nothing c ≡ true) action) actions
    → All (λ c. holds_nothing c ≡ true) (commands_of actions a)
commands_plain actions None is = All-nil (λ c. holds_nothing c ≡ true)
commands_plain actions (Some a) is = action_plain actions a is

run_commands_plain : (p : Standing) (w : Option ℕ) → IsPlain p → All (λ c. holds_nothing c ≡ true) (action_of p w)
run_commands_plain p None plain = All-nil (λ c. holds_nothing c ≡ true)
run_commands_plain p (Some w) plain = commands_plain p.actions (slice_index_or p.watching (name_of p w) None) plain.actions

run_plain : {P : Type 0} → (m : Meaning P) (r : Running P) → IsPlain r.standing → IsPlainCourse P m.calc (run m r) (moments_of_run m r)
unfolding run begun
run_plain m r plain =
    all_plain m (action_of r.standing (watcher_at (chosen m r) r.round)) (begun m r)
    (run_commands_plain r.standing (watcher_at (chosen m r) r.round) plain) plain

due_plain : {P : Type 0} → (calc : Calc) (due : List DueWatcher) (r : Running P) (course : Course P) (xs : List Moment)
    → IsPlain r.standing → IsPlainCourse P calc course xs → IsPlainCourse P calc (unless_none due r course) (none_unless_due due xs)
due_plain calc [] r course xs plain is = none_plain calc r plain
due_plain calc (entry ∷ due) r course xs plain is = is

runs_plain : {P : Type 0} → (m : Meaning P) (n : ℕ) (r : Running P) → IsPlain r.standing
    → IsPlainCourse P m.calc (runs_by m n r) (moments_of_runs m n r)
unfolding runs_by moments_of_runs
runs_plain m zero r plain = none_plain m.calc r plain
runs_plain m (suc n) r plain =
    let first = run_plain m r plain in
    due_plain m.calc r.round.due r (and_then (run m r) (runs_by m n)) (moments_of_run m r ++ moments_of_runs m n (run m r).next) plain
    (both_plain m.calc (run m r) (runs_by m n) (moments_of_run m r) (moments_of_runs m n (run m r).next) first
    (runs_plain m n (run m r).next first.next))

opened_plain : {P : Type 0} → (r : Running P) → IsPlain r.standing → IsPlain (opened r).standing
unfolding opened
opened_plain r plain = record { unheld = handed_unheld r.standing.state plain.unheld; actions = plain.actions }

round_plain : {P : Type 0} → (m : Meaning P) (r : Running P) (c : Command) → holds_nothing c ≡ true → IsPlain r.standing
    → IsPlainCourse P m.calc (round_of m r c) (moments_of_round m r c)
unfolding round_of moments_of_round
round_plain m r c is plain =
    let first = moment_plain m (opened r) c is (opened_plain r plain) in
    both_plain m.calc (course_of m (opened r) c) (runs_by m (most_runs r)) (moment_of m (opened r) c ∷ [])
    (moments_of_runs m (most_runs r) (course_of m (opened r) c).next) first (runs_plain m (most_runs r) (course_of m (opened r) c).next first.next)

rounds_plain : {P : Type 0} → (m : Meaning P) (r : Running P) (commands : List Command) → All (λ c. holds_nothing c ≡ true) commands
    → IsPlain r.standing → All (λ x. AreAskedAfresh m.calc x.standing) (moments m r commands)
unfolding moments
rounds_plain m r [] is plain = All-nil (λ x. AreAskedAfresh m.calc x.standing)
rounds_plain m r (c ∷ commands) is plain =
    let first = round_plain m r c (All-head (λ d. holds_nothing d ≡ true) c commands is) plain in
    All-append (λ x. AreAskedAfresh m.calc x.standing) (moments_of_round m r c) (moments m (round_of m r c).next commands) first.each
    (rounds_plain m (round_of m r c).next commands (All-tail (λ d. holds_nothing d ≡ true) c commands is) first.next)

pub plain_afresh : {P : Type 0} → (m : Meaning P) (r : Running P) (commands : List Command) → HoldsNothing r.standing.state
    → All (λ c. holds_nothing c ≡ true) commands
    → All (λ action. All (λ c. holds_nothing c ≡ true) action) r.standing.actions
    → All (λ moment. AreAskedAfresh m.calc moment.standing) (moments m r commands)
plain_afresh m r commands none is actions = rounds_plain m r commands is (record { unheld = none; actions = actions })

-- the round of such a command leaves a session in which nothing is held back
pub round_unheld : {P : Type 0} → (m : Meaning P) (r : Running P) (c : Command) → holds_nothing c ≡ true
    → HoldsNothing r.standing.state → All (λ action. All (λ d. holds_nothing d ≡ true) action) r.standing.actions
    → HoldsNothing (round_of m r c).next.standing.state
round_unheld m r c is none actions = (round_plain m r c is (record { unheld = none; actions = actions })).next.unheld

-- at each moment, whatever is held back
all_of_each : (Q : Moment → Type 0) → ((x : Moment) → Q x) → (xs : List Moment) → All Q xs
all_of_each Q each [] = All-nil Q
all_of_each Q each (x ∷ xs) = All-cons Q x xs (each x) (all_of_each Q each xs)

pub answers_are : {P : Type 0} → (m : Meaning P) (r : Running P) (commands : List Command)
    → All (λ moment. Answers m.calc moment.standing) (moments m r commands)
answers_are m r commands =
    all_of_each (λ moment. Answers m.calc moment.standing) (λ moment name object. answered m.calc moment.standing name object)
    (moments m r commands)

objects_unheld : (made : List (ℕ × Terms)) (p : Standing) → HoldsNothing p.state → HoldsNothing (with_objects made p).state
unfolding with_objects
objects_unheld [] p none = none
objects_unheld (entry ∷ made) p none =
    objects_unheld made (record p { state = effect.made entry.1 p.state; of_object = p.of_object ++ entry.0 ∷ [] })
    ((others_hold_nothing p.state none).make entry.1)

pub begins_unheld : (today : ℤ) (names : List (List ℕ)) (made : List (ℕ × Terms)) (actions : List (List Command))
    → HoldsNothing (start_with today names made actions).state
begins_unheld today names made actions = objects_unheld made (start_of today names actions) (start_unheld today)
