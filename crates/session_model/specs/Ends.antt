-- Every round ends, and how often the names of its watchers run (this project's profile).
use Rattle.std.specs.Prelude.{◌≡◌, ℕ, zero, suc, ◌+◌, ◌<◌, ◌≤◌, ◌*◌, ◌==◌, if◌then◌else◌, List, [], ◌∷◌, ◌++◌, length, All, Option, Some, None, ℤ}
use Rattle.std.specs.List.{list_any}
use Rattle.desk_terms.specs.declared.terms.Terms.{Terms}
use Rattle.session_commands.specs.declared.command.Command.{Command}
use Rattle.session_commands.specs.declared.command.Command.TheVariants.{Quote, Sum, Difference, Handle, Stock, Composite, Member, Set, Unset, Link, Unlink, Engine, Today, Fixing, Freeze, Thaw, Recalc, Forward, Defer, Resume, Watch, Register, Unregister, Drop, Ask, Df}
use Rattle.session_commands.specs.Whole.{IsCommand}
use Rattle.watch_rounds.specs.Round.{Round, runs_left, watcher_at}
use Rattle.session_model.specs.Standing.{Standing, start_with, name_of}
use Rattle.session_model.specs.Course.{Running, Meaning, running, course_of, chosen, run, runs_by, most_runs, opened, round_of}
use Rattle.session_model.specs.Moments.{none_unless_due}

-- a picker's positions are below the number of the due
abbrev pub IsPicking : {P : Type 0} → Meaning P → Type 0
IsPicking {P} m = (picker : P) (n : ℕ) → 1 ≤ n → m.at picker n < n

-- the name that a command gives to a watcher, if it gives one
abbrev pub watcher_names : Command → List ℕ
watcher_names (Quote name value) = []
watcher_names (Sum name a b) = []
watcher_names (Difference name a b) = []
watcher_names (Handle name is_curve) = []
watcher_names (Stock name q) = []
watcher_names (Composite name) = []
watcher_names (Member k i weight) = []
watcher_names (Set q value) = []
watcher_names (Unset q) = []
watcher_names (Link h t) = []
watcher_names (Unlink h) = []
watcher_names (Engine i e) = []
watcher_names (Today day) = []
watcher_names (Fixing x day rate) = []
watcher_names (Freeze o) = []
watcher_names (Thaw o) = []
watcher_names (Recalc o) = []
watcher_names (Forward o is_on) = []
watcher_names Defer = []
watcher_names Resume = []
watcher_names (Watch w action) = w ∷ []
watcher_names (Register w o) = []
watcher_names (Unregister w o) = []
watcher_names (Drop o) = []
watcher_names (Ask o) = []
watcher_names (Df c day) = []

abbrev pub names_in : List Command → List ℕ
names_in [] = []
names_in (command ∷ commands) = watcher_names command ++ names_in commands

abbrev pub names_in_all : List (List Command) → List ℕ
names_in_all [] = []
names_in_all (block ∷ blocks) = names_in block ++ names_in_all blocks

-- each of them once
abbrev pub each_once : List ℕ → List ℕ
each_once [] = []
each_once (x ∷ xs) = if list_any (λ y. y == x) xs then each_once xs else x ∷ each_once xs

-- THE NAMES THAT A SCRIPT GIVES TO WATCHERS, in its actions and in its commands, each once
abbrev pub names_of_watchers : List (List Command) → List Command → List ℕ
names_of_watchers actions commands = each_once (names_in_all actions ++ names_in commands)

-- how often a name stands in a list
abbrev pub times : ℕ → List ℕ → ℕ
times name [] = 0
times name (x ∷ xs) = (if x == name then 1 else 0) + times name xs

abbrev pub name_if : Standing → Option ℕ → List ℕ
name_if p None = []
name_if p (Some w) = name_of p w ∷ []

-- of at most n runs the names of the watchers that run, in order
unfoldable pub names_run : {P : Type 0} → Meaning P → ℕ → Running P → List ℕ
names_run m zero r = []
names_run m (suc n) r =
    none_unless_due r.round.due (name_if r.standing (watcher_at (chosen m r) r.round) ++ names_run m n (run m r).next)

-- of the runs of a round
abbrev pub names_run_in : {P : Type 0} → Meaning P → Running P → Command → List ℕ
names_run_in m r c = names_run m (most_runs r) (course_of m (opened r) c).next

-- A ROUND ENDS: nobody is due after it. In it each name runs at most 8 times, and there are at most 8 runs for each of
-- these names.
pub record IsOver {P : Type 0} (m : Meaning P) (names : List ℕ) (r : Running P) (c : Command) : Type 0 where
  pub ends : (round_of m r c).next.round.due ≡ []
  pub each : (name : ℕ) → times name (names_run_in m r c) ≤ 8
  pub together : length (names_run_in m r c) ≤ 8 * length names

-- each round of these commands does
abbrev pub AreOver : {P : Type 0} → Meaning P → List ℕ → Running P → List Command → Type 0
AreOver m names r [] = Unit {0}
AreOver m names r (c ∷ commands) = IsOver m names r c × AreOver m names (round_of m r c).next commands

-- EVERY ROUND ENDS, in every session of names, a market, actions and commands of these names and actions, whoever picks
-- who of the due runs next: names that run are those that the script gives to watchers
abbrev pub EveryRoundEnds : {P : Type 0} → Meaning P → Type 0
EveryRoundEnds {P} m = (picker : P) (today : ℤ) (names : List (List ℕ)) (made : List (ℕ × Terms)) (actions : List (List Command))
    (commands : List Command)
    → All (λ block. All (IsCommand (length names) (length actions)) block) actions
    → All (IsCommand (length names) (length actions)) commands
    → AreOver m (names_of_watchers actions commands) (running picker (start_with today names made actions)) commands

abbrev pub EightRunsEach : Type 0
EightRunsEach = (round : Round) → runs_left round ≤ 8 * length round.tallies

-- where nobody is due after n runs, more change nothing
abbrev pub MoreRunsChangeNothing : {P : Type 0} → Meaning P → Type 0
MoreRunsChangeNothing {P} m = (n k : ℕ) (r : Running P) → n ≤ k → (runs_by m n r).next.round.due ≡ [] → runs_by m k r ≡ runs_by m n r
