-- Two sessions over the same market that were asked other things.
use Rattle.std.proofs.Common.{◌≡◌, ℕ, zero, suc, ℤ, Bool, true, false, List, [], ◌∷◌, Option, Some, None, Result, Ok, Err, refl, sym, ◌∙◌, ap}
use Rattle.std.specs.Prelude.{slice_index_or, slice_set, if◌then◌else◌}
use Rattle.std.specs.Option.{option_eq}
use Rattle.std.specs.Ordering.{int_eq}
use Rattle.desk_terms.specs.declared.terms.Terms.{Terms}
use Rattle.desk_terms.specs.declared.terms.Terms.TheVariants.{Quote, Handle, Index, Composite, Flows}
use Rattle.desk_terms.specs.Reading.{Calc}
use Rattle.flow_terms.specs.Fixings.{with_fixing}
use Rattle.desk_model.specs.declared.slot.Slot.TheVariants.{Live}
use Rattle.desk_model.specs.Changeable.{Changeable, changeable, weight_of, with_member}
use Rattle.desk_model.specs.Changeable.Changeable.{HasValue, HasTarget, HasFixings, HasParts, HasEngine, HasNone}
use Rattle.desk_model.specs.Effect.{notified_as, notified, with_terms, revised, revised_unless, value_set, quote_set, number_eq, target_set, relinked, priced_by_engine, engine_set, weight_set, member_set, fixing_stored, fixing_added, with_today, today_set}
use Rattle.desk_model.specs.Fresh.{fresh}
use Rattle.desk_model.specs.Market.{Market, terms_at}
use Rattle.desk_model.specs.State.{State}
use Rattle.desk_model.specs.Told.{tell}
use Rattle.desk_model.specs.Unheld.{HoldsNothing}
use Rattle.desk_model.proofs.Unheld.{unheld_afresh}
use Rattle.session_commands.specs.declared.command.Command.{Command}
use Rattle.session_commands.specs.declared.refusal.Refusal.{Refusal}
use Rattle.watch_rounds.specs.declared.rounds.DueWatcher.{DueWatcher}
use Rattle.watch_rounds.specs.declared.picker.Order.{Order}
use Rattle.watch_rounds.specs.Round.{watcher_at}
use Rattle.session_model.specs.declared.act.Act.{Act}
use Rattle.session_model.specs.declared.place.Place.TheVariants.{Priced}
use Rattle.session_model.specs.Course.{Running, Meaning, Course, taken, notice, noticed, heard, all_handed_out, and_then, course_of, course_of_all, chosen, begun, commands_of, action_of, run, unless_none, runs_by, most_runs, opened, round_of}
use Rattle.session_model.specs.Resolve.{find, resolve}
use Rattle.session_model.specs.Standing.{Standing, name_of}
use Rattle.session_model.specs.Turn.{done_as, effect_of, turn}
use Rattle.tool_script.specs.Scenario.{money_in, money_of, money_shown}

-- ---- what a round leaves where there is no action

no_action : (p : Standing) (w : Option ℕ) → p.actions ≡ [] → action_of p w ≡ []
no_action p None none = refl
no_action p (Some w) none =
    ap (λ (actions : List (List Command)). commands_of actions (slice_index_or p.watching (name_of p w) None)) none
    ∙ empty (slice_index_or p.watching (name_of p w) None)
  where
    empty : (a : Option ℕ) → commands_of [] a ≡ []
    empty None = refl
    empty (Some zero) = refl
    empty (Some (suc a)) = refl

run_leaves : (m : Meaning Order) (r : Running Order) → r.standing.actions ≡ [] → (run m r).next.standing ≡ r.standing
unfolding run begun course_of_all
run_leaves m r none =
    ap (λ (commands : List Command). (course_of_all m commands (begun m r)).next.standing)
    (no_action r.standing (watcher_at (chosen m r) r.round) none)

due_leaves : (due : List DueWatcher) (r : Running Order) (course : Course Order) → course.next.standing ≡ r.standing
    → (unless_none due r course).next.standing ≡ r.standing
due_leaves [] r course same = refl
due_leaves (entry ∷ due) r course same = same

runs_leave : (m : Meaning Order) (n : ℕ) (r : Running Order) → r.standing.actions ≡ [] → (runs_by m n r).next.standing ≡ r.standing
unfolding runs_by and_then
runs_leave m zero r none = refl
runs_leave m (suc n) r none =
    due_leaves r.round.due r (and_then (run m r) (runs_by m n))
    (runs_leave m n (run m r).next (ap (λ (p : Standing). p.actions) (run_leaves m r none) ∙ none) ∙ run_leaves m r none)

notices_leave : (ws : List ℕ) (r : Running Order) → (noticed ws r).next.standing ≡ r.standing
unfolding noticed and_then
notices_leave [] r = refl
notices_leave (w ∷ ws) r = notices_leave ws (notice w r).next

hearing_leaves : (r : Running Order) → (heard r).next.standing ≡ all_handed_out r.standing
unfolding heard
hearing_leaves r = notices_leave r.standing.state.noticed (record r { standing = all_handed_out r.standing })

pub turn_actions : (calc : Calc) (p : Standing) (c : Command) → (turn calc p c).next.actions ≡ p.actions
unfolding turn effect_of
turn_actions calc p c = by (resolve p c)
  where
    by : (r : Result Act Refusal) → (done_as calc p c r).next.actions ≡ p.actions
    by (Ok a) = refl
    by (Err refusal) = refl

-- the turn of the command, and its notices are handed out
pub round_leaves : (m : Meaning Order) (r : Running Order) (c : Command) → r.standing.actions ≡ []
    → (round_of m r c).next.standing ≡ all_handed_out (turn m.calc (all_handed_out r.standing) c).next
unfolding round_of course_of opened and_then
round_leaves m r c none =
    let told = (taken (turn m.calc (opened r).standing c) (opened r)).next in
    runs_leave m (most_runs r) (heard told).next
    (ap (λ (p : Standing). p.actions) (hearing_leaves told) ∙ turn_actions m.calc (opened r).standing c ∙ none)
    ∙ hearing_leaves told

-- ---- two sessions alike

-- the same market, under the same names of objects
pub record Alike (p q : Standing) : Type 0 where
  pub market : p.state.market ≡ q.state.market
  pub named : p.of_object ≡ q.of_object

-- nothing is held back, and there is no action
pub record IsPlain (p : Standing) : Type 0 where
  pub unheld : HoldsNothing p.state
  pub actions : p.actions ≡ []

pub record AreAlike (r t : Running Order) : Type 0 where
  pub alike : Alike r.standing t.standing
  pub first : IsPlain r.standing
  pub second : IsPlain t.standing

-- they show the same, the price afresh from that market
same_money : (calc : Calc) (p q : Standing) → Alike p q → IsPlain p → IsPlain q → (found : Result ℕ Refusal)
    → money_of calc p found ≡ money_of calc q found
same_money calc p q alike first second (Err refusal) = refl
same_money calc p q alike first second (Ok o) =
    ap money_in
    ((unheld_afresh p.state first.unheld calc o).value
    ∙ ap (λ (market : Market). fresh calc market o) alike.market
    ∙ sym (unheld_afresh q.state second.unheld calc o).value)

same_found : (p q : Standing) (name : ℕ) → Alike p q → find Priced p name ≡ find Priced q name
unfolding find
same_found p q name alike = rw (alike.market, alike.named) refl

pub same_shown : (calc : Calc) (r t : Running Order) (name : Option ℕ) → AreAlike r t
    → money_shown calc r.standing name ≡ money_shown calc t.standing name
same_shown calc r t None are = refl
same_shown calc r t (Some name) are =
    same_money calc r.standing t.standing are.alike are.first are.second (find Priced r.standing name)
    ∙ ap (money_of calc t.standing) (same_found r.standing t.standing name are.alike)

-- ---- what a change leaves of a market

notified_market : (x : ℕ) (s : State) → (notified x s).market ≡ s.market
unfolding notified tell
notified_market x s = by s.deferring
  where
    by : (deferring : Bool) → (notified_as deferring x s).market ≡ s.market
    by true = refl
    by false = refl

module _ (s t : State) (same : s.market ≡ t.market) where
  revised_same : (x : ℕ) (terms : Terms) → (revised x terms s).market ≡ (revised x terms t).market
  unfolding revised
  revised_same x terms =
      notified_market x (with_terms x terms s)
      ∙ ap (λ (market : Market). record market { objects = slice_set market.objects x (Live terms) }) same
      ∙ sym (notified_market x (with_terms x terms t))

  unless_same : (b : Bool) (x : ℕ) (terms : Terms) → (revised_unless b x terms s).market ≡ (revised_unless b x terms t).market
  unless_same true x terms = same
  unless_same false x terms = revised_same x terms

  same_terms : (x : ℕ) → changeable (terms_at s.market x) ≡ changeable (terms_at t.market x)
  same_terms x = ap (λ (market : Market). changeable (terms_at market x)) same

  pub quote_same : (q : ℕ) (value : Option ℤ) → (quote_set q value s).market ≡ (quote_set q value t).market
  unfolding quote_set
  quote_same q value =
      ap (λ (c : Changeable). (value_set c q value s).market) (same_terms q) ∙ by (changeable (terms_at t.market q))
    where
      by : (c : Changeable) → (value_set c q value s).market ≡ (value_set c q value t).market
      by (HasValue held) = unless_same (option_eq int_eq held value) q (Quote value)
      by (HasTarget kind held) = same
      by (HasFixings terms fixings) = same
      by (HasParts parts) = same
      by (HasEngine flows held) = same
      by HasNone = same

  pub link_same : (h : ℕ) (target : Option ℕ) → (relinked h target s).market ≡ (relinked h target t).market
  unfolding relinked
  link_same h target =
      ap (λ (c : Changeable). (target_set c h target s).market) (same_terms h) ∙ by (changeable (terms_at t.market h))
    where
      by : (c : Changeable) → (target_set c h target s).market ≡ (target_set c h target t).market
      by (HasValue held) = same
      by (HasTarget kind held) = unless_same (option_eq number_eq held target) h (Handle kind target)
      by (HasFixings terms fixings) = same
      by (HasParts parts) = same
      by (HasEngine flows held) = same
      by HasNone = same

  pub engine_same : (i : ℕ) (engine : Option ℕ) → (engine_set i engine s).market ≡ (engine_set i engine t).market
  unfolding engine_set
  engine_same i engine =
      ap (λ (c : Changeable). (priced_by_engine c i engine s).market) (same_terms i) ∙ by (changeable (terms_at t.market i))
    where
      by : (c : Changeable) → (priced_by_engine c i engine s).market ≡ (priced_by_engine c i engine t).market
      by (HasValue held) = same
      by (HasTarget kind held) = same
      by (HasFixings terms fixings) = same
      by (HasParts parts) = same
      by (HasEngine flows held) = revised_same i (Flows flows engine)
      by HasNone = same

  pub member_same : (k member : ℕ) (weight : ℤ) → (member_set k member weight s).market ≡ (member_set k member weight t).market
  unfolding member_set
  member_same k member weight =
      ap (λ (c : Changeable). (weight_set c k member weight s).market) (same_terms k) ∙ by (changeable (terms_at t.market k))
    where
      by : (c : Changeable) → (weight_set c k member weight s).market ≡ (weight_set c k member weight t).market
      by (HasValue held) = same
      by (HasTarget kind held) = same
      by (HasFixings terms fixings) = same
      by (HasParts parts) = unless_same (int_eq (weight_of parts member) weight) k (Composite (with_member parts member weight))
      by (HasEngine flows held) = same
      by HasNone = same

  pub fixing_same : (x : ℕ) (day rate : ℤ) → (fixing_added x day rate s).market ≡ (fixing_added x day rate t).market
  unfolding fixing_added
  fixing_same x day rate =
      ap (λ (c : Changeable). (fixing_stored c x day rate s).market) (same_terms x) ∙ by (changeable (terms_at t.market x))
    where
      by : (c : Changeable) → (fixing_stored c x day rate s).market ≡ (fixing_stored c x day rate t).market
      by (HasValue held) = same
      by (HasTarget kind held) = same
      by (HasFixings terms fixings) = revised_same x (Index terms (with_fixing fixings day rate))
      by (HasParts parts) = same
      by (HasEngine flows held) = same
      by HasNone = same

  pub today_same : (day : ℤ) → (today_set day s).market ≡ (today_set day t).market
  unfolding today_set
  today_same day =
      ap (λ (today : ℤ). (if int_eq today day then s else notified 0 (with_today day s)).market) (ap (λ (market : Market). market.today) same)
      ∙ by (int_eq t.market.today day)
    where
      by : (b : Bool) → (if b then s else notified 0 (with_today day s)).market ≡ (if b then t else notified 0 (with_today day t)).market
      by true = same
      by false =
          notified_market 0 (with_today day s)
          ∙ ap (λ (market : Market). record market { today = day }) same
          ∙ sym (notified_market 0 (with_today day t))
