-- The money that an ask shows is what is stored behind it.
use Rattle.std.proofs.Common.{suc, zero, ◌≡◌, inl, inr, ℕ, ℤ, Bool, true, false, List, [], Option, Some, None, Result, Ok, Err, refl, sym, ◌∙◌, ap}
use Rattle.std.specs.Prelude.{if◌then◌else◌}
use Rattle.std.proofs.lemmas.Bool.{cases_Bool, or_parts, false≢true}
use Rattle.desk_terms.specs.declared.value.Value.{Value}
use Rattle.desk_terms.specs.declared.value.Value.TheVariants.{Money, Curve}
use Rattle.desk_terms.specs.declared.asked.Mark.TheVariants.{Fresh, Frozen, Late, Held}
use Rattle.desk_terms.specs.Reading.{Calc}
use Rattle.desk_model.specs.declared.kept.Kept.{Kept}
use Rattle.desk_model.specs.State.{State, kept_at, last_of, is_frozen, is_source, is_late, is_clear, mark_of, held_outcome, seen_outcome, shows}
use Rattle.desk_model.specs.Sound.{IsSound}
use Rattle.desk_model.specs.Links.{IsWhole}
use Rattle.desk_model.specs.Laws.{Keeps}
use Rattle.desk_model.specs.Unheld.{HoldsNothing}
use Rattle.desk_model.specs.Visit.{has_value, runs, stored, asked}
use Rattle.desk_model.proofs.Asked.{stored_not, got, idle_current}
use Rattle.desk_model.proofs.Carried.{sound_kept}
use Rattle.desk_model.proofs.Clear.{shows_seen}
use Rattle.desk_model.proofs.Registrations.{fewer_keep}
use Rattle.desk_model.proofs.Shown.{holds_fit, shows_last, free_held}
use Rattle.desk_model.proofs.Unheld.{unheld_afresh}
use Rattle.desk_model.proofs.Visits.{cases_outcome, runs_closed, runs_idle}
use Rattle.desk_model.proofs.Watchers.{thawed_forwarder}
use Rattle.watch_rounds.specs.declared.picker.Order.{Order}
use Rattle.session_commands.specs.declared.command.Command.TheVariants.{Ask}
use Rattle.session_commands.specs.declared.refusal.Refusal.{Refusal}
use Rattle.session_model.specs.declared.place.Place.TheVariants.{Priced}
use Rattle.session_model.specs.declared.act.Act.TheVariants as act
use Rattle.session_model.specs.declared.act.How.TheVariants as how
use Rattle.session_model.specs.Course.{Running, Meaning, taken, noticed, heard, all_handed_out, and_then, course_of, unless_none, run, runs_by, most_runs, opened, round_of}
use Rattle.session_model.specs.Resolve.{find, with_found, resolve}
use Rattle.session_model.specs.Standing.{Standing}
use Rattle.session_model.specs.Turn.{done_as, effect_of, step, turn}
use Rattle.session_core.specs.Values.{value_found, is_current_found}
use Rattle.watch_rounds.specs.declared.rounds.DueWatcher.{DueWatcher}
use Rattle.tool_script.specs.Scenario.{ordered, money_in, money_of, money_shown}
use Rattle.tool_script.specs.Kept.{money_in_value, money_kept}

-- of what is stored of an object, where it is current
abbrev shown_by : Kept → Option ℤ
shown_by kept = if kept.current then money_in_value kept.last else None

shown_current : (kept : Kept) → kept.current ≡ true → shown_by kept ≡ money_in_value kept.last
shown_current kept is = ap (λ (b : Bool). if b then money_in_value kept.last else None) is

shown_stale : (kept : Kept) → kept.current ≡ false → shown_by kept ≡ None
shown_stale kept is = ap (λ (b : Bool). if b then money_in_value kept.last else None) is

same_money : (value : Value) → money_in (Ok value) ≡ money_in_value (Some value)
same_money (Money amount) = refl
same_money (Curve curve) = refl

last_money : (o : ℕ) (last : Option Value) → money_in (last_of o last) ≡ money_in_value last
last_money o None = refl
last_money o (Some value) = same_money value

module _ (calc : Calc) (s : State) (whole : IsWhole s) (sound : IsSound calc s) (o : ℕ) (free : held_outcome s o ≡ None) where
  -- an object that stays as it was, and got no value
  stale_money : (kept_at s o).current ≡ false → has_value (runs calc s o) o ≡ false → money_in (seen_outcome calc s o) ≡ None
  stale_money stale none = elim (cases_outcome (seen_outcome calc s o)) [
    | inl got ↦
        absurd (false≢true (sym stale ∙ idle_current s (runs calc s o) o (runs_idle calc s whole.links o got.0 got.1) free none))
    | inr refused ↦ ap money_in refused.1
  ]

  stays_money : has_value (runs calc s o) o ≡ false → money_in (seen_outcome calc s o) ≡ shown_by (kept_at s o)
  stays_money none = elim (cases_Bool (kept_at s o).current) [
    | inl current ↦
        let fit = holds_fit s whole.links (thawed_forwarder s whole) in
        ap money_in (shows_last calc s whole.links fit sound.current o current free)
        ∙ last_money o (kept_at s o).last ∙ sym (shown_current (kept_at s o) current)
    | inr stale ↦ stale_money stale none ∙ sym (shown_stale (kept_at s o) stale)
  ]

  pub asked_money : money_in (seen_outcome calc s o) ≡ shown_by (kept_at (asked calc o s) o)
  unfolding asked
  asked_money = elim (cases_Bool (has_value (runs calc s o) o)) [
    | inl has ↦
        let r = runs_closed calc s whole.links o o has in
        ap money_in r.seen ∙ same_money r.value
        ∙ sym (ap shown_by (got calc s whole (runs calc s o) (runs_closed calc s whole.links o) o has))
    | inr none ↦ stays_money none ∙ sym (ap shown_by (stored_not s (runs calc s o) o none))
  ]

-- ---- the round of an ask

-- no notice is left
abbrev silent : State → State
silent s = record s { noticed = [] }

silent_keeps : (s : State) → IsWhole s → Keeps s (silent s)
silent_keeps s whole = fewer_keep s whole [] (λ w among. absurd among)

silent_unheld : (s : State) → HoldsNothing s → HoldsNothing (silent s)
unfolding is_frozen is_source
silent_unheld s none = record { off = none.off; free = none.free }

late_by_mark : (frozen late clear : Bool) → (if frozen then Frozen else if late then Late else if clear then Fresh else Held) ≡ Fresh
    → late ≡ false
late_by_mark true late clear e = absurd (cc)
late_by_mark false true clear e = absurd (cc)
late_by_mark false false clear e = refl

unheld_free : (calc : Calc) (s : State) → HoldsNothing s → (o : ℕ) → held_outcome s o ≡ None
unfolding mark_of
unheld_free calc s none o =
    free_held s o (or_parts (is_frozen s o) (is_source s o) (none.free o)).0
    (late_by_mark (is_frozen s o) (is_late s o) (is_clear s o) (unheld_afresh s none calc o).mark)

-- what is shown is the price afresh, whichever notices are left
silent_shows : (calc : Calc) (s : State) → HoldsNothing s → (o : ℕ) → shows calc s o ≡ shows calc (silent s) o
silent_shows calc s none o =
    (unheld_afresh s none calc o).value ∙ sym (unheld_afresh (silent s) (silent_unheld s none) calc o).value

-- what is stored by what the name stands for
abbrev kept_found : Standing → Result ℕ Refusal → Option ℤ
kept_found p found = if is_current_found p found then money_in_value (value_found p found) else None

abbrev ask_of : Calc → Standing → ℕ → Result ℕ Refusal → Standing
ask_of calc p name found = (done_as calc p (Ask name) (with_found found (λ o. Ok (act.Price name o how.Ask)))).next

module _ (calc : Calc) (p : Standing) (whole : IsWhole p.state) (sound : IsSound calc p.state) (none : HoldsNothing p.state) (name : ℕ) where
  found_money : (found : Result ℕ Refusal) → find Priced p name ≡ found
      → money_of calc p found ≡ money_kept (all_handed_out (ask_of calc p name found)) name
  unfolding find with_found effect_of step asked stored
  found_money (Ok o) is =
      ap money_in (shows_seen p.state whole.links calc o)
      ∙ asked_money calc p.state whole sound o (unheld_free calc p.state none o)
      ∙ sym (ap (λ (r : Result ℕ Refusal). kept_found (all_handed_out (ask_of calc p name (Ok o))) r) is)
  found_money (Err refusal) is =
      sym (ap (λ (r : Result ℕ Refusal). kept_found (all_handed_out p) r) is)

  turn_money : money_shown calc p (Some name) ≡ money_kept (all_handed_out (turn calc p (Ask name)).next) name
  unfolding turn resolve
  turn_money = found_money (find Priced p name) refl

-- it notifies nobody
ask_notices : (calc : Calc) (p : Standing) (name : ℕ) (found : Result ℕ Refusal)
    → (ask_of calc p name found).state.noticed ≡ p.state.noticed
unfolding with_found effect_of step asked stored
ask_notices calc p name (Ok o) = refl
ask_notices calc p name (Err refusal) = refl

turn_notices : (calc : Calc) (p : Standing) (name : ℕ) → (turn calc p (Ask name)).next.state.noticed ≡ p.state.noticed
unfolding turn resolve
turn_notices calc p name = ask_notices calc p name (find Priced p name)

-- and nobody runs where nobody is due
runs_none : (m : Meaning Order) (n : ℕ) (r : Running Order) → r.round.due ≡ [] → (runs_by m n r).next ≡ r
unfolding runs_by
runs_none m zero r none = refl
runs_none m (suc n) r none =
    ap (λ (due : List DueWatcher). (unless_none due r (and_then (run m r) (runs_by m n))).next) none

module _ (calc : Calc) (r : Running Order) (name : ℕ) where
  abbrev told : Running Order
  told = (taken (turn calc (opened r).standing (Ask name)) (opened r)).next

  abbrev handed : Running Order
  handed = record told { standing = all_handed_out told.standing }

  told_none : told.standing.state.noticed ≡ []
  unfolding opened
  told_none = turn_notices calc (opened r).standing name

  done_next : (course_of (ordered calc) (opened r) (Ask name)).next ≡ handed
  unfolding course_of and_then heard noticed
  done_next = ap (λ (ws : List ℕ). (noticed ws handed).next) told_none

  handed_due : handed.round.due ≡ []
  unfolding opened
  handed_due = refl

  pub ask_next : (round_of (ordered calc) r (Ask name)).next.standing ≡ all_handed_out (turn calc (opened r).standing (Ask name)).next
  unfolding round_of and_then
  ask_next =
      ap (λ (q : Running Order). q.standing)
      (runs_none (ordered calc) (most_runs r) (course_of (ordered calc) (opened r) (Ask name)).next
      (ap (λ (q : Running Order). q.round.due) done_next ∙ handed_due)
      ∙ done_next)

-- the same of a name that is found, whichever notices are left
opened_money : (calc : Calc) (p : Standing) (found : Result ℕ Refusal) → HoldsNothing p.state
    → money_of calc p found ≡ money_of calc (all_handed_out p) found
opened_money calc p (Ok o) none = ap money_in (silent_shows calc p.state none o)
opened_money calc p (Err refusal) none = refl

-- THE MONEY THAT AN ASK SHOWS IS STORED BEHIND ITS ROUND
pub round_money : (calc : Calc) (r : Running Order) (name : ℕ) → IsWhole r.standing.state → IsSound calc r.standing.state
    → HoldsNothing r.standing.state
    → money_shown calc r.standing (Some name) ≡ money_kept (round_of (ordered calc) r (Ask name)).next.standing name
unfolding opened find
round_money calc r name whole sound none =
    let keeps = silent_keeps r.standing.state whole in
    opened_money calc r.standing (find Priced r.standing name) none
    ∙ turn_money calc (opened r).standing keeps.whole (sound_kept calc r.standing.state _ keeps.current sound)
    (silent_unheld r.standing.state none) name
    ∙ sym (ap (λ (p : Standing). money_kept p name) (ask_next calc r name))
