-- What each act does to a session, as the definition says.
use Rattle.std.proofs.Common.{◌≡◌, ◌≢◌, inl, inr, ℕ, suc, ◌+◌, ◌≤◌, Bool, ℤ, List, [], ◌∷◌, ◌++◌, length, Option, Some, None, Result, Ok, Err, refl, sym, ◌∙◌, ap, subst, arith}
use Rattle.std.specs.Prelude.{codes, decimal, take, true, false, OnOk, OnErr}
use Rattle.std.proofs.lemmas.Bool.{false≢true}
use Rattle.std.proofs.lemmas.List.{append-nil, take_all}
use Rattle.desk_terms.specs.declared.terms.Terms.{Terms}
use Rattle.desk_terms.specs.declared.asked.Asked.{Asked}
use Rattle.desk_terms.specs.declared.cause.Cause.{Cause}
use Rattle.desk_terms.specs.declared.asked.Mark.{Mark}
use Rattle.desk_terms.specs.Reading.{Outcome, Calc}
use Rattle.desk_terms.specs.Bench.{counted, logged}
use Rattle.desk_model.specs.declared.kept.Kept.{Kept}
use Rattle.desk_model.specs.State.{State, each_kept}
use Rattle.desk_model.specs.Visit.{log_of, stored, value_among, with_value}
use Rattle.session_commands.specs.declared.command.Command.{Command}
use Rattle.session_commands.specs.declared.refusal.Refusal.{Refusal}
use Rattle.session_commands.specs.Parts.{command_word}
use Rattle.price_report.specs.Namer.{name_text}
use Rattle.price_report.specs.Line.{answer_text, asked_line, found_text, df_line, refusal_line}
use Rattle.session_model.specs.declared.act.Act.{Act}
use Rattle.session_model.specs.declared.act.Act.TheVariants as act
use Rattle.session_model.specs.declared.act.Change.{Change}
use Rattle.session_model.specs.declared.act.Growth.{Growth}
use Rattle.session_model.specs.declared.act.How.{How}
use Rattle.session_model.specs.declared.act.How.TheVariants as how
use Rattle.session_model.specs.Change.{changed, grown}
use Rattle.session_model.specs.Pricing.{Pricing, discount_in, priced_line}
use Rattle.session_model.specs.Standing.{Standing}
use Rattle.session_model.specs.Resolve.{resolve}
use Rattle.session_model.specs.Turn.{Turn, step, effect_of, done_as, turn}
use Rattle.session_core.specs.Pricing.{Prices, StopsShort}
use Rattle.session_core.specs.Steps.{with_object, with_watcher, with_state, Does, Ends, Carries, Acts, survivors_of, takes_no_memory}

abbrev Log : Type 0
Log = Option (List (ℕ × Bool))

logged_nothing : (log : Log) → log ≡ logged log []
logged_nothing None = refl
logged_nothing (Some entries) = ap Some (sym (append-nil entries))

-- nothing that was computed leaves a state as it was
each_same : (o : ℕ) (kept : List Kept) → each_kept (λ x k. with_value k (value_among [] x)) o kept ≡ kept
each_same o [] = refl
each_same o (k ∷ kept) = ap (λ (rest : List Kept). k ∷ rest) (each_same (o + 1) kept)

stored_nothing : (s : State) → s ≡ stored s []
unfolding stored
stored_nothing s = ap (λ (kept : List Kept). record s { kept = kept }) (sym (each_same 0 s.kept))

pub log_length : (calls : List (ℕ × Outcome)) → length (log_of calls) ≡ length calls
log_length [] = refl
log_length (call ∷ calls) = ap suc (log_length calls)

module _ (lines_old lines_new : List ℕ) (count : ℕ) (log : Log) where
  -- a turn that computes nothing
  does_idle : (t : Turn) (new : Standing) → t.calls ≡ [] → new ≡ t.next → lines_new ≡ lines_old ++ t.lines
      → Does t new lines_old lines_new count count log log
  does_idle t new none next written = record {
    next = next;
    written = written;
    count = ap (λ (calls : List (ℕ × Bool)). counted count (length calls)) (sym none);
    log = logged_nothing log ∙ ap (logged log) (sym none);
  }

-- a turn in which nothing was begun
pub ends_at_once : (t : Turn) (survivors : List (ℕ × Outcome)) (old new : Standing) (lines_old lines_new : List ℕ)
    (count : ℕ) (log : Log) → new ≡ old → lines_new ≡ lines_old
    → Ends t survivors old new lines_old lines_new count count log log
ends_at_once t survivors old new lines_old lines_new count log same none = record {
  begun = 0;
  ended = 0;
  most = omega arith;
  last = (omega arith, omega arith);
  count = refl;
  log = logged_nothing log;
  written = none;
  state = inl (ap (λ (p : Standing). p.state) same ∙ stored_nothing old.state);
  others = same ∙ ap (λ (p : Standing). record old { state = p.state; stopped = p.stopped }) (sym same);
}

-- An object is priced by a turn, with its line.
module _ (w : Pricing) (o : ℕ) (t : Turn) (old new : Standing) (lines_old lines_new : List ℕ) (count_old count_new : ℕ)
    (log_old log_new : Log) (calls : t.calls ≡ log_of w.calls) where
  calls_length : length t.calls ≡ length w.calls
  calls_length = ap (λ (log : List (ℕ × Bool)). length log) calls ∙ log_length w.calls

  -- its line is written
  pub priced_does : (line : List (List ℕ) → List ℕ → Mark → ℕ → List ℕ) (answer : Asked)
      → Prices w o old new answer count_old count_new log_old log_new → t.next ≡ record old { state = w.next }
      → t.lines ≡ line old.names old.of_object w.mark (length w.calls)
      → lines_new ≡ lines_old ++ line new.names new.of_object answer.mark answer.runs
      → Does t new lines_old lines_new count_old count_new log_old log_new
  priced_does line answer a next lines written = record {
    next = a.next ∙ sym next;
    written = written
        ∙ ap (λ (p : Standing). lines_old ++ line p.names p.of_object answer.mark answer.runs) a.next
        ∙ ap (λ (m : Mark). lines_old ++ line old.names old.of_object m answer.runs) a.mark
        ∙ ap (λ (n : ℕ). lines_old ++ line old.names old.of_object w.mark n) a.number
        ∙ ap (λ (l : List ℕ). lines_old ++ l) (sym lines);
    count = a.count ∙ ap (counted count_old) (sym calls_length);
    log = a.log ∙ ap (logged log_old) (sym calls);
  }

  others_as : (s : State) → new ≡ record old { state = s }
      → new ≡ record old { state = new.state; stopped = new.stopped }
  others_as s next =
      next ∙ ap (λ (p : Standing). record old { state = p.state; stopped = p.stopped }) (sym next)

  -- memory ran out before its line
  pub priced_stops : StopsShort w old new count_old count_new log_old log_new → lines_new ≡ lines_old
      → Ends t w.survivors old new lines_old lines_new count_old count_new log_old log_new
  priced_stops s none = record {
    begun = s.begun;
    ended = s.ended;
    most = subst (λ (n : ℕ). s.begun ≤ n) (sym calls_length) s.most;
    last = s.last;
    count = s.count;
    log = s.log ∙ ap (λ (log : List (ℕ × Bool)). logged log_old (take s.ended log)) (sym calls);
    written = none;
    state = inl (ap (λ (p : Standing). p.state) s.next);
    others = others_as (stored old.state (take s.ended w.survivors)) s.next;
  }

  -- its line found no memory
  pub priced_unwritten : (answer : Asked) → Prices w o old new answer count_old count_new log_old log_new
      → t.next ≡ record old { state = w.next } → t.lines ≢ [] → lines_new ≡ lines_old
      → Ends t w.survivors old new lines_old lines_new count_old count_new log_old log_new
  priced_unwritten answer a next line none = record {
    begun = length t.calls;
    ended = length t.calls;
    most = omega arith;
    last = (omega arith, omega arith);
    count = a.count ∙ ap (counted count_old) (sym calls_length);
    log = a.log ∙ ap (logged log_old) (sym calls ∙ sym (take_all (length t.calls) t.calls (omega arith)));
    written = none;
    state = inr (record {
      line = line;
      all = refl;
      done = ap (λ (p : Standing). p.state) (a.next ∙ sym next);
    });
    others = others_as w.next a.next;
  }

-- where memory ran out in a turn without a line, what ended is stored
pub left_silent : (t : Turn) (survivors : List (ℕ × Outcome)) (old new : Standing) (lines_old lines_new : List ℕ)
    (count_old count_new : ℕ) (log_old log_new : Log) → t.lines ≡ []
    → (e : Ends t survivors old new lines_old lines_new count_old count_new log_old log_new)
    → new.state ≡ stored old.state (take e.ended survivors)
left_silent t survivors old new lines_old lines_new count_old count_new log_old log_new silent e = elim e.state [
  | inl left ↦ left
  | inr lacks ↦ absurd (lacks.line silent)
]

-- and in one that stores the values of all its computations and changes nothing else
pub left_stored : (t : Turn) (survivors : List (ℕ × Outcome)) (old new : Standing) (lines_old lines_new : List ℕ)
    (count_old count_new : ℕ) (log_old log_new : Log) → t.calls ≡ log_of survivors → t.next.state ≡ stored old.state survivors
    → (e : Ends t survivors old new lines_old lines_new count_old count_new log_old log_new)
    → new.state ≡ stored old.state (take e.ended survivors)
left_stored t survivors old new lines_old lines_new count_old count_new log_old log_new calls next e = elim e.state [
  | inl left ↦ left
  | inr lacks ↦
      let all : e.ended ≡ length survivors =
      lacks.all ∙ ap (λ (log : List (ℕ × Bool)). length log) calls ∙ log_length survivors in
      lacks.done ∙ next ∙ ap (stored old.state) (sym (take_all e.ended survivors (omega (arith, all))))
]

-- a line is not empty
some_so : (xs ys : List ℕ) → ys ≢ [] → xs ++ ys ≢ []
some_so [] ys some = some
some_so (x ∷ xs) ys some = λ same. cc

asked_line_some : (names : List (List ℕ)) (of_object : List ℕ) (name : ℕ) (outcome : Outcome) (mark : Mark) (n : ℕ)
    → asked_line names of_object name outcome mark n ≢ []
unfolding asked_line
asked_line_some names of_object name outcome mark n =
    some_so (name_text names name ++ codes " " ++ answer_text names of_object outcome mark ++ codes " " ++ decimal n)
    (codes "\n") (λ same. cc)

df_line_some : (names : List (List ℕ)) (of_object : List ℕ) (name : ℕ) (day : ℤ) (found : Result ℤ Cause)
    (mark : Mark) (n : ℕ) → df_line names of_object name day found mark n ≢ []
unfolding df_line
df_line_some names of_object name day found mark n =
    some_so (name_text names name ++ codes " " ++ found_text names of_object day found mark ++ codes " " ++ decimal n)
    (codes "\n") (λ same. cc)

pub priced_line_some : (names : List (List ℕ)) (of_object : List ℕ) (name o : ℕ) (how : How) (outcome : Outcome)
    (mark : Mark) (n : ℕ) → priced_line names of_object name o how outcome mark n ≢ []
priced_line_some names of_object name o how.Ask outcome mark n = asked_line_some names of_object name outcome mark n
priced_line_some names of_object name o (how.Df day) outcome mark n =
    df_line_some names of_object name day (discount_in o day outcome) mark n
priced_line_some names of_object name o how.Recalc outcome mark n = asked_line_some names of_object name outcome mark n

-- an act that writes and computes nothing
quiet_carries : (calc : Calc) (a : Act) (old new : Standing) (lines : List ℕ) (count : ℕ) (log : Log)
    → (effect_of calc old a).lines ≡ [] → (effect_of calc old a).calls ≡ [] → new ≡ (effect_of calc old a).next
    → Carries calc a old new lines lines count count log log
quiet_carries calc a old new lines count log silent idle next =
    does_idle lines lines count log (effect_of calc old a) new idle next
    (sym (append-nil lines) ∙ ap (λ (more : List ℕ). lines ++ more) (sym silent))

pub watch_carries : (calc : Calc) (name action : ℕ) (old new : Standing) (lines : List ℕ) (count : ℕ) (log : Log)
    → new ≡ with_watcher name action old → Carries calc (act.Watch name action) old new lines lines count count log log
unfolding effect_of step
watch_carries calc name action old new lines count log is =
    quiet_carries calc (act.Watch name action) old new lines count log refl refl is

pub make_carries : (calc : Calc) (name : ℕ) (t : Terms) (old new : Standing) (lines : List ℕ) (count : ℕ) (log : Log)
    → new ≡ with_object name t old → Carries calc (act.Make name t) old new lines lines count count log log
unfolding effect_of step
make_carries calc name t old new lines count log is =
    quiet_carries calc (act.Make name t) old new lines count log refl refl is

pub change_carries : (calc : Calc) (change : Change) (old new : Standing) (lines : List ℕ) (count : ℕ) (log : Log)
    → new ≡ with_state (changed change old.state) old
    → Carries calc (act.Quiet change) old new lines lines count count log log
unfolding effect_of step
change_carries calc change old new lines count log is =
    quiet_carries calc (act.Quiet change) old new lines count log refl refl is

-- a change that a command resolves to is its turn
pub change_acts : (calc : Calc) (old new : Standing) (c : Command) (change : Change) (lines : List ℕ) (count : ℕ) (log : Log)
    → Ok (act.Quiet change) ≡ resolve old c → new ≡ with_state (changed change old.state) old
    → Acts calc c old new lines lines count count log log
unfolding turn
change_acts calc old new c change lines count log is made =
    subst (λ (r : Result Act Refusal). Does (done_as calc old c r) new lines lines count count log log) is
    (change_carries calc change old new lines count log made)

pub growth_carries : (calc : Calc) (growth : Growth) (old new : Standing) (lines : List ℕ) (count : ℕ) (log : Log)
    → new ≡ with_state (grown growth old.state) old
    → Carries calc (act.Grow growth) old new lines lines count count log log
unfolding effect_of step
growth_carries calc growth old new lines count log is =
    quiet_carries calc (act.Grow growth) old new lines count log refl refl is

-- A quiet command does its turn: what it resolves to is done, or it is refused.
pub change_is : (calc : Calc) (p new : Standing) (change : Change) → new ≡ with_state (changed change p.state) p
    → new ≡ (effect_of calc p (act.Quiet change)).next
unfolding effect_of step
change_is calc p new change made = made

pub act_turns : (calc : Calc) (p new : Standing) (c : Command) (a : Act) → resolve p c ≡ Ok a → new ≡ (effect_of calc p a).next
    → new ≡ (turn calc p c).next
unfolding turn
act_turns calc p new c a is made = made ∙ ap (λ (r : Result Act Refusal). (done_as calc p c r).next) (sym is)

pub refusal_turns : (calc : Calc) (p : Standing) (c : Command) (refusal : Refusal) → resolve p c ≡ Err refusal
    → p ≡ (turn calc p c).next
unfolding turn
refusal_turns calc p c refusal is = ap (λ (r : Result Act Refusal). (done_as calc p c r).next) (sym is)

-- what holds holds also where a call ended so
pub on_err : {A E P : Type 0} (result : Result A E) → P → OnErr result P
on_err (Ok x) p = tt
on_err (Err e) p = p

pub on_ok : {A E P Q : Type 0} (result : Result A E) → (P → Q) → OnOk result P → OnOk result Q
on_ok (Ok x) f p = f p
on_ok (Err e) f p = tt

pub on_err_of : {A E P Q : Type 0} (result : Result A E) → (P → Q) → OnErr result P → OnErr result Q
on_err_of (Ok x) f p = tt
on_err_of (Err e) f p = f p

-- an act that may take memory
pub loud : {P : Type 0} (a b : Act) → a ≡ b → takes_no_memory b ≡ false → takes_no_memory a ≡ true → P
loud a b same may never = absurd (false≢true (sym may ∙ ap takes_no_memory (sym same) ∙ never))

-- A command does what it is found to be, over the session that the search has left as it was.
pub does_of : {E : Type 0} (calc : Calc) (c : Command) (found is : Result Act Refusal) (p q new : Standing)
    (lines_old lines_new : List ℕ) (count_old count_new : ℕ) (log_old log_new : Log) (r : Result (Unit {0}) E) → p ≡ q → found ≡ is
    → OnOk r (Does (done_as calc p c found) new lines_old lines_new count_old count_new log_old log_new)
    → OnOk r (Does (done_as calc q c is) new lines_old lines_new count_old count_new log_old log_new)
does_of calc c found is p q new lines_old lines_new count_old count_new log_old log_new r same e does =
    subst (λ (x : Result Act Refusal). OnOk r
    (Does (done_as calc q c x) new lines_old lines_new count_old count_new log_old log_new)) e
    (subst (λ (s : Standing). OnOk r
    (Does (done_as calc s c found) new lines_old lines_new count_old count_new log_old log_new)) same does)

pub breaks_of : {E : Type 0} (calc : Calc) (c : Command) (found is : Result Act Refusal) (p q new : Standing)
    (lines_old lines_new : List ℕ) (count_old count_new : ℕ) (log_old log_new : Log) (r : Result (Unit {0}) E) → p ≡ q → found ≡ is
    → OnErr r (Ends (done_as calc p c found) (survivors_of calc p.state found) p new lines_old lines_new count_old count_new
    log_old log_new)
    → OnErr r (Ends (done_as calc q c is) (survivors_of calc q.state is) q new lines_old lines_new count_old count_new log_old
    log_new)
breaks_of calc c found is p q new lines_old lines_new count_old count_new log_old log_new r same e breaks =
    subst (λ (x : Result Act Refusal). OnErr r
    (Ends (done_as calc q c x) (survivors_of calc q.state x) q new lines_old lines_new count_old count_new log_old
    log_new)) e
    (subst (λ (s : Standing). OnErr r
    (Ends (done_as calc s c found) (survivors_of calc s.state found) s new lines_old lines_new count_old count_new log_old
    log_new)) same breaks)

-- a refused command writes its line
pub refused_does : {E : Type 0} (calc : Calc) (c : Command) (refusal : Refusal) (p : Standing) (lines_old lines_new : List ℕ)
    (count : ℕ) (log : Log) (r : Result (Unit {0}) E)
    → OnOk r (lines_new ≡ lines_old ++ refusal_line p.names p.of_object (command_word c) refusal)
    → OnOk r (Does (done_as calc p c (Err refusal)) p lines_old lines_new count count log log)
refused_does calc c refusal p lines_old lines_new count log r written =
    on_ok r (λ line. does_idle lines_old lines_new count log (done_as calc p c (Err refusal)) p refl refl line) written

-- no command stops a session, nor changes its names and actions
pub found_kept : (calc : Calc) (p : Standing) (c : Command) (found : Result Act Refusal)
    → ((done_as calc p c found).next.stopped ≡ p.stopped) × ((done_as calc p c found).next.names ≡ p.names)
    × ((done_as calc p c found).next.actions ≡ p.actions)
unfolding effect_of
found_kept calc p c (Ok a) = (refl, refl, refl)
found_kept calc p c (Err refusal) = (refl, refl, refl)
