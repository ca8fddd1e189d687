-- What a command leaves in a round.
use Rattle.std.proofs.Common.{◌≡◌, ℕ, ◌+◌, ◌≤◌, Bool, true, false, List, [], length, Option, Result, Ok, Err, refl, sym, ap, subst, ◌∙◌}
use Rattle.std.specs.Prelude.{OnOk, OnErr}
use Rattle.std.specs.List.{filter}
use Rattle.std.proofs.lemmas.Bool.{false≢true}
use Rattle.std.proofs.lemmas.List.{append-nil}
use Rattle.desk_terms.specs.Reading.{Outcome, Calc}
use Rattle.desk_model.specs.Told.{is_watching}
use Rattle.session_commands.specs.declared.command.Command.{Command}
use Rattle.session_commands.specs.declared.refusal.Refusal.{Refusal}
use Rattle.watch_rounds.specs.declared.rounds.DueWatcher.{DueWatcher}
use Rattle.watch_rounds.specs.Due.{AreAll}
use Rattle.watch_rounds.proofs.Places.{all_filtered}
use Rattle.session_model.specs.Standing.{Standing}
use Rattle.session_model.specs.declared.act.Act.{Act}
use Rattle.session_model.specs.declared.act.Act.TheVariants as act
use Rattle.session_model.specs.Resolve.{resolve}
use Rattle.session_model.specs.Turn.{Turn, effect_of, done_as, turn}
use Rattle.session_model.specs.Course.{Running, undue, taken}
use Rattle.session_core.specs.Steps as steps
use Rattle.session_core.specs.Watchers.{AreWatchers}
use Rattle.session_rounds.specs.Fits.{Fits, IsDueOf}
use Rattle.session_rounds.specs.Goes.{Does, Halts}
use Rattle.session_rounds.proofs.Known.{known_same}
use Rattle.session_model.proofs.Live.{acted_live, acted_named}

module _ {P : Type 0} (t : Turn) (r : Running P) (lines_old lines_new : List ℕ) (count_old count_new : ℕ)
    (log_old log_new : Option (List (ℕ × Bool))) where
  -- its turn is taken
  pub does_taken : (new : Standing) → steps.Does t new lines_old lines_new count_old count_new log_old log_new
      → Does P (taken t r) (record r { standing = new; round = undue new.state r.round })
      (record { lines = lines_old; count = count_old; log = log_old }) (record { lines = lines_new; count = count_new; log = log_new })
  does_taken new does = record {
    next = ap (λ (p : Standing). let z : Running P = record r { standing = p; round = undue p.state r.round } in z) does.next;
    out = λ i. record { lines = does.written i; count = does.count i; log = does.log i };
  }

  pub halts_taken : (survivors : List (ℕ × Outcome)) (old new : Standing)
      → steps.Ends t survivors old new lines_old lines_new count_old count_new log_old log_new
      → Halts P (taken t r)
      (record { lines = lines_old; count = count_old; log = log_old }) (record { lines = lines_new; count = count_new; log = log_new })
  halts_taken survivors old new ends = record {
    front = [];
    rest = t.lines;
    whole = refl;
    begun = ends.begun;
    ended = ends.ended;
    most = ends.most;
    last = ends.last;
    out = λ i. record { lines = (ends.written ∙ sym (append-nil lines_old)) i; count = ends.count i; log = ends.log i };
  }

-- each watcher that is due after a command is live
due_then : (calc : Calc) (p : Standing) (c : Command) (due : List DueWatcher) → AreWatchers p → AreAll (IsDueOf p) due
    → AreAll (IsDueOf (turn calc p c).next) (filter (λ one. is_watching (turn calc p c).next.state one.watcher) due)
due_then calc p c due are all =
    all_filtered (IsDueOf p) (IsDueOf (turn calc p c).next) (λ one. is_watching (turn calc p c).next.state one.watcher)
    (λ one is watching. (
      acted_live calc p c one.watcher is.0 watching,
      is.1 ∙ sym (acted_named calc p c one.watcher (are one.watcher is.0).listed),
    )) due all

-- what holds after a command, also where the session is stopped then
pub fits_acted : {P : Type 0} → (calc : Calc) (r : Running P) (c : Command) (new last : Standing) (nodes more : ℕ) → Fits P r nodes
    → AreWatchers r.standing → new ≡ (turn calc r.standing c).next → new.names ≡ r.standing.names
    → new.actions ≡ r.standing.actions → last ≡ record new { stopped = last.stopped } → length last.of_object ≤ more
    → (last.stopped ≡ false → length last.of_object + 1 ≤ more)
    → Fits P (record r { standing = last; round = undue new.state r.round }) more
fits_acted {P} calc r c new last nodes more fits are is names actions kept room spare =
    let same_names = ap (λ (p : Standing). p.names) kept ∙ names in record {
      counted = fits.counted ∙ sym (ap (λ (l : List (List ℕ)). length l) same_names);
      room = room;
      spare = spare;
      due = subst (λ (p : Standing). AreAll (IsDueOf p) (filter (λ one. is_watching new.state one.watcher) r.round.due)) (sym kept)
          (subst (λ (p : Standing). AreAll (IsDueOf p) (filter (λ one. is_watching p.state one.watcher) r.round.due)) (sym is)
          (due_then calc r.standing c r.round.due are fits.due));
      known = known_same r.standing last same_names (ap (λ (p : Standing). p.actions) kept ∙ actions) fits.known;
    }

-- the same session, or stopped
pub stopped_or_same : {A E : Type 0} → (result : Result A E) (old new : Standing) → OnOk result (new ≡ old)
    → OnErr result (new ≡ record old { stopped = true }) → new ≡ record old { stopped = new.stopped }
stopped_or_same (Ok value) old new ok err = ok ∙ ap (λ (b : Bool). let p : Standing = record old { stopped = b } in p) (sym (ap (λ (p : Standing). p.stopped) ok))
stopped_or_same (Err fault) old new ok err = err ∙ ap (λ (b : Bool). let p : Standing = record old { stopped = b } in p) (sym (ap (λ (p : Standing). p.stopped) err))

-- a command that takes no memory gives no number
pub quiet_numbers : (calc : Calc) (p : Standing) (c : Command) → steps.is_without_memory (resolve p c) ≡ true
    → (turn calc p c).next.of_object ≡ p.of_object
unfolding turn effect_of
quiet_numbers calc p c = by (resolve p c)
  where
    by : (found : Result Act Refusal) → steps.is_without_memory found ≡ true → (done_as calc p c found).next.of_object ≡ p.of_object
    by (Err refusal) is = refl
    by (Ok (act.Make name terms)) is = absurd (false≢true is)
    by (Ok (act.Watch name action)) is = absurd (false≢true is)
    by (Ok (act.Quiet change)) is = refl
    by (Ok (act.Grow growth)) is = absurd (false≢true is)
    by (Ok (act.Price name object how)) is = absurd (false≢true is)
