-- A watcher stays one until it is dropped, whatever else is done, and only a command that makes one brings one.
use Rattle.std.proofs.Common.{◌≡◌, ◌≢◌, ◌⊎◌, inl, inr, ℕ, zero, suc, ◌+◌, ◌<◌, ◌≤◌, Bool, true, false, ℤ, List, [], ◌∷◌, ◌++◌, length, get_or, Option, None, Result, Ok, Err, refl, sym, ◌∙◌, ap, subst, arith}
use Rattle.std.specs.Prelude.{◌||◌, ◌==◌, if◌then◌else◌, slice_set}
use Rattle.std.specs.List.{list_any}
use Rattle.std.proofs.lemmas.Bool.{cases_eq, false≢true}
use Rattle.std.proofs.lemmas.List.{get_or-set_other, length-append, length-set}
use Rattle.desk_terms.specs.declared.terms.Terms.{Terms}
use Rattle.desk_terms.specs.Reading.{Calc}
use Rattle.desk_model.specs.declared.slot.Slot.{Slot}
use Rattle.desk_model.specs.declared.slot.Slot.TheVariants.{Free, Today, Watcher, Live}
use Rattle.desk_model.specs.Market.{slot_at, is_watcher, terms_in, terms_at, without}
use Rattle.desk_model.specs.State.{State, is_source}
use Rattle.walks.specs.Walk.{Among}
use Rattle.desk_model.proofs.Tells.{told_watcher}
use Rattle.desk_model.specs.Told.{registered, is_watching, tell}
use Rattle.desk_model.specs.Changeable.{Changeable, changeable}
use Rattle.desk_model.specs.Changeable.Changeable.{HasValue, HasTarget, HasFixings, HasParts, HasEngine, HasNone}
use Rattle.desk_model.specs.Visit.{stored, asked}
use Rattle.desk_model.specs.Recalc.{recalced}
use Rattle.desk_model.specs.Effect.{notified, notified_as, with_terms, revised, revised_unless, value_set, target_set, priced_by_engine, weight_set, fixing_stored, without_pairs, quote_set, relinked, engine_set, today_set, with_today, frozen_set, thawed, unfrozen, forward_set, deferred, resumed, unregistered, dropped, member_set, fixing_added, registered_with, made, watching}
use Rattle.session_commands.specs.declared.command.Command.{Command}
use Rattle.session_commands.specs.declared.refusal.Refusal.{Refusal}
use Rattle.session_model.specs.declared.act.Act.{Act}
use Rattle.session_model.specs.declared.act.Act.TheVariants as act
use Rattle.session_model.specs.declared.act.Change.{Change}
use Rattle.session_model.specs.declared.act.Change.TheVariants as change
use Rattle.session_model.specs.declared.act.Growth.{Growth}
use Rattle.session_model.specs.declared.act.Growth.TheVariants as growth
use Rattle.session_model.specs.declared.act.How.{How}
use Rattle.session_model.specs.declared.act.How.TheVariants as how
use Rattle.session_model.specs.Change.{changed, grown}
use Rattle.session_model.specs.Pricing.{pricing_of}
use Rattle.session_model.specs.Standing.{Standing, name_of}
use Rattle.session_model.specs.Resolve.{resolve}
use Rattle.session_model.specs.Turn.{step, object_names, effect_of, done_as, turn}

-- what stands at a number is the same in both
abbrev IsSame : State → State → ℕ → Type 0
IsSame s t w = slot_at t.market w ≡ slot_at s.market w

pick : (Q : State → Type 0) (b : Bool) (s t : State) → Q s → Q t → Q (if b then s else t)
pick Q true s t first second = first
pick Q false s t first second = second

-- a notice leaves what stands at each number
notified_same : (x : ℕ) (s : State) (w : ℕ) → IsSame s (notified x s) w
unfolding notified tell
notified_same x s w = by s.deferring
  where
    by : (b : Bool) → IsSame s (notified_as b x s) w
    by true = refl
    by false = refl

-- x has other terms, or all is as it was
abbrev IsRevised : ℕ → State → State → Type 0
IsRevised x s t = (t ≡ s) ⊎ ((terms : Terms) × (t ≡ revised x terms s))

unless_revised : (b : Bool) (x : ℕ) (terms : Terms) (s : State) → IsRevised x s (revised_unless b x terms s)
unless_revised true x terms s = inl refl
unless_revised false x terms s = inr (terms, refl)

value_revised : (x : ℕ) (value : Option ℤ) (s : State) (c : Changeable) → IsRevised x s (value_set c x value s)
value_revised x value s (HasValue held) = unless_revised _ x _ s
value_revised x value s (HasTarget kind held) = inl refl
value_revised x value s (HasFixings terms fixings) = inl refl
value_revised x value s (HasParts parts) = inl refl
value_revised x value s (HasEngine flows held) = inl refl
value_revised x value s HasNone = inl refl

target_revised : (x : ℕ) (target : Option ℕ) (s : State) (c : Changeable) → IsRevised x s (target_set c x target s)
target_revised x target s (HasValue held) = inl refl
target_revised x target s (HasTarget kind held) = unless_revised _ x _ s
target_revised x target s (HasFixings terms fixings) = inl refl
target_revised x target s (HasParts parts) = inl refl
target_revised x target s (HasEngine flows held) = inl refl
target_revised x target s HasNone = inl refl

engine_revised : (x : ℕ) (engine : Option ℕ) (s : State) (c : Changeable) → IsRevised x s (priced_by_engine c x engine s)
engine_revised x engine s (HasValue held) = inl refl
engine_revised x engine s (HasTarget kind held) = inl refl
engine_revised x engine s (HasFixings terms fixings) = inl refl
engine_revised x engine s (HasParts parts) = inl refl
engine_revised x engine s (HasEngine flows held) = inr (_, refl)
engine_revised x engine s HasNone = inl refl

weight_revised : (x member : ℕ) (weight : ℤ) (s : State) (c : Changeable) → IsRevised x s (weight_set c x member weight s)
weight_revised x member weight s (HasValue held) = inl refl
weight_revised x member weight s (HasTarget kind held) = inl refl
weight_revised x member weight s (HasFixings terms fixings) = inl refl
weight_revised x member weight s (HasParts parts) = unless_revised _ x _ s
weight_revised x member weight s (HasEngine flows held) = inl refl
weight_revised x member weight s HasNone = inl refl

fixing_revised : (x : ℕ) (day rate : ℤ) (s : State) (c : Changeable) → IsRevised x s (fixing_stored c x day rate s)
fixing_revised x day rate s (HasValue held) = inl refl
fixing_revised x day rate s (HasTarget kind held) = inl refl
fixing_revised x day rate s (HasFixings terms fixings) = inr (_, refl)
fixing_revised x day rate s (HasParts parts) = inl refl
fixing_revised x day rate s (HasEngine flows held) = inl refl
fixing_revised x day rate s HasNone = inl refl

-- so another object is as it was
revised_same : (x : ℕ) (s t : State) (w : ℕ) → IsRevised x s t → w ≢ x → IsSame s t w
unfolding revised
revised_same x s t w is other = elim is [
  | inl same ↦ ap (λ (u : State). slot_at u.market w) same
  | inr more ↦ ap (λ (u : State). slot_at u.market w) more.1 ∙ notified_same x (with_terms x more.0 s) w
      ∙ get_or-set_other s.market.objects x w (Live more.0) Free other
]

unwatched : (slot : Slot) → is_watcher slot ≡ true → terms_in slot ≡ None
unwatched Free e = absurd (false≢true e)
unwatched Today e = absurd (false≢true e)
unwatched Watcher e = refl
unwatched (Live terms) e = absurd (false≢true e)

-- what is set of x leaves a watcher, since a watcher has no terms
set_same : (s : State) (x w : ℕ) (set : Changeable → State) → is_watcher (slot_at s.market w) ≡ true → set HasNone ≡ s
    → ((c : Changeable) → IsRevised x s (set c)) → IsSame s (set (changeable (terms_at s.market x))) w
set_same s x w set live none others = elim (cases_eq w x) [
  | inl same ↦ ap (λ (t : Option Terms). slot_at (set (changeable t)).market w)
      (ap (λ (o : ℕ). terms_at s.market o) (sym same) ∙ unwatched (slot_at s.market w) live)
      ∙ ap (λ (t : State). slot_at t.market w) none
  | inr other ↦ revised_same x s (set (changeable (terms_at s.market x))) w (others (changeable (terms_at s.market x))) other
]

-- a dropped watcher is registered with nothing
idle_dropped : (x : ℕ) (pairs : List (ℕ × ℕ)) → registered (without_pairs x pairs) x ≡ []
idle_dropped x [] = refl
idle_dropped x (pair ∷ pairs) = by (idle_dropped x pairs) (pair.0 == x) (pair.1 == x) refl
  where
    by : registered (without_pairs x pairs) x ≡ [] → (a b : Bool) → (pair.0 == x) ≡ a
        → registered (if a || b then without_pairs x pairs else pair ∷ without_pairs x pairs) x ≡ []
    by rest true b is = rest
    by rest false true is = rest
    by rest false false is = rw is rest

changed_live : (c : Change) (s : State) (w : ℕ) → is_watcher (slot_at s.market w) ≡ true → is_watching (changed c s) w ≡ true
    → IsSame s (changed c s) w
unfolding changed quote_set relinked engine_set today_set frozen_set thawed forward_set deferred resumed unregistered dropped tell
changed_live (change.Set q value) s w live has = set_same s q w (λ c. value_set c q value s) live refl (value_revised q value s)
changed_live (change.Link h target) s w live has = set_same s h w (λ c. target_set c h target s) live refl (target_revised h target s)
changed_live (change.Engine i engine) s w live has =
    set_same s i w (λ c. priced_by_engine c i engine s) live refl (engine_revised i engine s)
changed_live (change.Today day) s w live has =
    pick (λ (t : State). IsSame s t w) _ s (notified 0 (with_today day s)) refl
    (notified_same 0 (with_today day s) w)
changed_live (change.Freeze x) s w live has = refl
changed_live (change.Thaw x) s w live has =
    pick (λ (t : State). IsSame s t w) _ (notified x (unfrozen x s)) s
    (notified_same x (unfrozen x s) w) refl
changed_live (change.Forward x is_on) s w live has = refl
changed_live change.Defer s w live has = refl
changed_live change.Resume s w live has = pick (λ (t : State). IsSame s t w) s.deferring _ s refl refl
changed_live (change.Unregister v o) s w live has = refl
changed_live (change.Drop x) s w live has = elim (cases_eq w x) [
  | inl same ↦ absurd (false≢true (sym (ap (λ (l : List ℕ). list_any (λ y. true) l)
      (ap (λ (o : ℕ). registered (without_pairs x s.registrations) o) same ∙ idle_dropped x s.registrations)) ∙ has))
  | inr other ↦ get_or-set_other s.market.objects x w Free Free other
]

grown_live : (g : Growth) (s : State) (w : ℕ) → is_watcher (slot_at s.market w) ≡ true → IsSame s (grown g s) w
unfolding grown member_set fixing_added registered_with
grown_live (growth.Member k member weight) s w live =
    set_same s k w (λ c. weight_set c k member weight s) live refl (weight_revised k member weight s)
grown_live (growth.Fixing x day rate) s w live =
    set_same s x w (λ c. fixing_stored c x day rate s) live refl (fixing_revised x day rate s)
grown_live (growth.Register v o) s w live = refl

priced_live : (calc : Calc) (o : ℕ) (s : State) (h : How) (w : ℕ) → IsSame s (pricing_of calc o s h).next w
unfolding asked stored recalced
priced_live calc o s how.Ask w = refl
priced_live calc o s (how.Df day) w = refl
priced_live calc o s how.Recalc w = notified_same o _ w

-- a slot more
added_live : (slots : List Slot) (slot : Slot) (w : ℕ) → is_watcher (get_or slots w Free) ≡ true
    → get_or (slots ++ slot ∷ []) w Free ≡ get_or slots w Free
added_live [] slot zero live = absurd (false≢true live)
added_live [] slot (suc w) live = absurd (false≢true live)
added_live (first ∷ slots) slot zero live = refl
added_live (first ∷ slots) slot (suc w) live = added_live slots slot w live

step_live : (calc : Calc) (s : State) (a : Act) (w : ℕ) → is_watcher (slot_at s.market w) ≡ true → is_watching (step calc s a) w ≡ true
    → IsSame s (step calc s a) w
unfolding step made watching
step_live calc s (act.Make name terms) w live has = added_live s.market.objects (Live terms) w live
step_live calc s (act.Watch name action) w live has = added_live s.market.objects Watcher w live
step_live calc s (act.Quiet c) w live has = changed_live c s w live has
step_live calc s (act.Grow g) w live has = grown_live g s w live
step_live calc s (act.Price name o h) w live has = priced_live calc o s h w

-- A WATCHER THAT HAS A REGISTRATION after a command stayed live through it
pub acted_live : (calc : Calc) (p : Standing) (c : Command) (w : ℕ) → is_watcher (slot_at p.state.market w) ≡ true
    → is_watching (turn calc p c).next.state w ≡ true
    → is_watcher (slot_at (turn calc p c).next.state.market w) ≡ true
unfolding turn effect_of
acted_live calc p c w = by (resolve p c)
  where
    by : (found : Result Act Refusal) → is_watcher (slot_at p.state.market w) ≡ true → is_watching (done_as calc p c found).next.state w ≡ true
        → is_watcher (slot_at (done_as calc p c found).next.state.market w) ≡ true
    by (Err refusal) live has = live
    by (Ok a) live has = ap is_watcher (step_live calc p.state a w live has) ∙ live

-- names are added at the end, at most one
pub named_more : (names : List ℕ) (name w : ℕ) → w < length names → get_or (names ++ name ∷ []) w 0 ≡ get_or names w 0
named_more [] name w low = absurd (omega arith)
named_more (first ∷ names) name zero low = refl
named_more (first ∷ names) name (suc w) low = named_more names name w (omega arith)

named_by : (a : Act) (names : List ℕ) (w : ℕ) → w < length names → get_or (object_names a names) w 0 ≡ get_or names w 0
named_by (act.Make name terms) names w low = named_more names name w low
named_by (act.Watch name action) names w low = named_more names name w low
named_by (act.Quiet c) names w low = refl
named_by (act.Grow g) names w low = refl
named_by (act.Price name o h) names w low = refl

long_by : (a : Act) (names : List ℕ) → length (object_names a names) ≤ length names + 1
long_by (act.Make name terms) names = let long = length-append names (name ∷ []) in omega arith
long_by (act.Watch name action) names = let long = length-append names (name ∷ []) in omega arith
long_by (act.Quiet c) names = omega arith
long_by (act.Grow g) names = omega arith
long_by (act.Price name o h) names = omega arith

pub acted_named : (calc : Calc) (p : Standing) (c : Command) (w : ℕ) → w < length p.of_object
    → name_of (turn calc p c).next w ≡ name_of p w
unfolding turn effect_of
acted_named calc p c w low = by (resolve p c)
  where
    by : (found : Result Act Refusal) → name_of (done_as calc p c found).next w ≡ name_of p w
    by (Err refusal) = refl
    by (Ok a) = named_by a p.of_object w low

pub acted_long : (calc : Calc) (p : Standing) (c : Command) → length (turn calc p c).next.of_object ≤ length p.of_object + 1
unfolding turn effect_of
acted_long calc p c = by (resolve p c)
  where
    by : (found : Result Act Refusal) → length (done_as calc p c found).next.of_object ≤ length p.of_object + 1
    by (Err refusal) = omega arith
    by (Ok a) = long_by a p.of_object

-- A CHANGE MAKES NO WATCHER: there are as many objects as before, each watcher was one, and, where no notice was left to
-- be handed out, all that are told are watchers.
pub record IsShaped (s t : State) : Type 0 where
  pub size : length t.market.objects ≡ length s.market.objects
  pub fewer : (w : ℕ) → is_watcher (slot_at t.market w) ≡ true → is_watcher (slot_at s.market w) ≡ true
  pub told : s.noticed ≡ [] → (w : ℕ) → Among w t.noticed → is_watcher (slot_at t.market w) ≡ true

-- the objects and the notices are as they were
still : (s t : State) → t.market.objects ≡ s.market.objects → t.noticed ≡ s.noticed → IsShaped s t
still s t objects noticed = record {
  size = ap (λ (slots : List Slot). length slots) objects;
  fewer = λ w is. subst (λ (slots : List Slot). is_watcher (get_or slots w Free) ≡ true) objects is;
  told = λ none w among. absurd (subst (λ (ws : List ℕ). Among w ws) (noticed ∙ none) among);
}

told_shaped : (from : ℕ → Bool) (s : State) → IsShaped s (tell from s)
unfolding tell
told_shaped from s = record { size = refl; fewer = λ w is. is; told = λ none w among. told_watcher from s w among }

notified_shaped : (x : ℕ) (s : State) → IsShaped s (notified x s)
unfolding notified
notified_shaped x s = by s.deferring
  where
    by : (b : Bool) → IsShaped s (notified_as b x s)
    by true = still s _ refl refl
    by false = told_shaped (λ y. y == x) s

-- the same from another state, or of another
from_other : (s u t : State) → u.market.objects ≡ s.market.objects → u.noticed ≡ s.noticed → IsShaped u t → IsShaped s t
from_other s u t objects noticed shaped = record {
  size = shaped.size ∙ ap (λ (slots : List Slot). length slots) objects;
  fewer = λ w is. subst (λ (slots : List Slot). is_watcher (get_or slots w Free) ≡ true) objects (shaped.fewer w is);
  told = λ none w among. shaped.told (noticed ∙ none) w among;
}

-- no watcher comes where something else is put
set_fewer : (slots : List Slot) (x : ℕ) (slot : Slot) (w : ℕ) → is_watcher slot ≡ false
    → is_watcher (get_or (slice_set slots x slot) w Free) ≡ true → is_watcher (get_or slots w Free) ≡ true
set_fewer [] x slot w plain is = is
set_fewer (first ∷ slots) zero slot zero plain is = absurd (false≢true (sym plain ∙ is))
set_fewer (first ∷ slots) zero slot (suc w) plain is = is
set_fewer (first ∷ slots) (suc x) slot zero plain is = is
set_fewer (first ∷ slots) (suc x) slot (suc w) plain is = set_fewer slots x slot w plain is

revised_shaped : (x : ℕ) (terms : Terms) (s : State) → IsShaped s (revised x terms s)
unfolding revised
revised_shaped x terms s = let notice = notified_shaped x (with_terms x terms s) in record {
  size = notice.size ∙ length-set s.market.objects x (Live terms);
  fewer = λ w is. set_fewer s.market.objects x (Live terms) w refl (notice.fewer w is);
  told = notice.told;
}

are_shaped : (x : ℕ) (s t : State) → IsRevised x s t → IsShaped s t
are_shaped x s t is = elim is [
  | inl same ↦ subst (λ (u : State). IsShaped s u) (sym same) (still s s refl refl)
  | inr more ↦ subst (λ (u : State). IsShaped s u) (sym more.1) (revised_shaped x more.0 s)
]

pub changed_shaped : (c : Change) (s : State) → IsShaped s (changed c s)
unfolding changed quote_set relinked engine_set today_set frozen_set thawed forward_set deferred resumed unregistered dropped
changed_shaped (change.Set q value) s = are_shaped q s _ (value_revised q value s (changeable (terms_at s.market q)))
changed_shaped (change.Link h target) s = are_shaped h s _ (target_revised h target s (changeable (terms_at s.market h)))
changed_shaped (change.Engine i engine) s = are_shaped i s _ (engine_revised i engine s (changeable (terms_at s.market i)))
changed_shaped (change.Today day) s =
    pick (IsShaped s) _ s (notified 0 (with_today day s)) (still s s refl refl)
    (from_other s (with_today day s) _ refl refl (notified_shaped 0 (with_today day s)))
changed_shaped (change.Freeze x) s = still s _ refl refl
changed_shaped (change.Thaw x) s =
    pick (IsShaped s) _ (notified x (unfrozen x s)) s
    (from_other s (unfrozen x s) _ refl refl (notified_shaped x (unfrozen x s))) (still s s refl refl)
changed_shaped (change.Forward x is_on) s = still s _ refl refl
changed_shaped change.Defer s = still s _ refl refl
changed_shaped change.Resume s = let all = told_shaped (is_source s) s in
    pick (IsShaped s) s.deferring _ s (record { size = all.size; fewer = all.fewer; told = all.told }) (still s s refl refl)
changed_shaped (change.Unregister v o) s = still s _ refl refl
changed_shaped (change.Drop x) s = record {
  size = length-set s.market.objects x Free;
  fewer = λ w is. set_fewer s.market.objects x Free w refl is;
  told = λ none w among. absurd (subst (λ (ws : List ℕ). Among w (without x ws)) none among);
}

pub grown_shaped : (g : Growth) (s : State) → IsShaped s (grown g s)
unfolding grown member_set fixing_added registered_with
grown_shaped (growth.Member k member weight) s = are_shaped k s _ (weight_revised k member weight s (changeable (terms_at s.market k)))
grown_shaped (growth.Fixing x day rate) s = are_shaped x s _ (fixing_revised x day rate s (changeable (terms_at s.market x)))
grown_shaped (growth.Register v o) s = still s _ refl refl

pub priced_shaped : (calc : Calc) (o : ℕ) (s : State) (h : How) → IsShaped s (pricing_of calc o s h).next
unfolding asked stored recalced
priced_shaped calc o s how.Ask = still s _ refl refl
priced_shaped calc o s (how.Df day) = still s _ refl refl
priced_shaped calc o s how.Recalc = from_other s _ _ refl refl (notified_shaped o _)
