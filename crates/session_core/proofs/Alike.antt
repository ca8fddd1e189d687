-- Which changes leave every object's life, and so its name, as it was.
use Rattle.std.proofs.Common.{◌≡◌, ◌≢◌, inl, inr, ℕ, ◌<◌, ◌≤◌, ◌+◌, ◌-◌, Bool, true, false, ◌||◌, length, List, Option, Some, None, ℤ, if◌then◌else◌, refl, sym, ◌∙◌, ap, subst, arith}
use Rattle.std.specs.Prelude.{slice_index_or, slice_set, nat_le, Result, Ok, Err, OnOk, OnErr}
use Rattle.std.specs.Ordering.{int_eq}
use Rattle.std.proofs.lemmas.List.{get_or-set_same, get_or-set_other, length-set}
use Rattle.std.proofs.lemmas.Option.{get_or_from_slice_get, slice_get_read}
use Rattle.std.proofs.lemmas.Bool.{cases_eq, false≢true, leb-false}
use Rattle.desk_terms.specs.declared.terms.Terms.{Terms}
use Rattle.desk_terms.specs.declared.kind.Kind.{Kind}
use Rattle.desk_terms.specs.declared.kind.Kind.TheVariants as kind
use Rattle.desk_terms.specs.Reading.{Outcome, Calc}
use Rattle.desk_model.specs.declared.slot.Slot.{Slot}
use Rattle.desk_model.specs.declared.slot.Slot.TheVariants.{Free, Today, Watcher, Live}
use Rattle.desk_model.specs.Market.{Market, slot_at, is_given, kind_in, kind_at, terms_at, live_count}
use Rattle.desk_model.specs.State.{State, is_frozen, is_source}
use Rattle.desk_model.specs.Sound.{IsSound, KeepsCurrent}
use Rattle.desk_model.specs.Told.{tell}
use Rattle.desk_model.specs.Visit.{runs, stored, asked}
use Rattle.desk_model.specs.Recalc.{inputs_walk, recalced_bare, recalced}
use Rattle.desk_model.proofs.Stores.{told_market}
use Rattle.desk_model.specs.Changeable.{Changeable, changeable}
use Rattle.desk_model.specs.Changeable.Changeable.{HasValue, HasTarget, HasFixings, HasParts, HasEngine}
use Rattle.desk_model.specs.Effect.{notified_as, notified, with_terms, revised, revised_unless, value_set, quote_set, target_set, relinked, priced_by_engine, engine_set, weight_set, member_set, fixing_stored, fixing_added, with_today, today_set, dropped, frozen_set, unfrozen, thawed, forward_set, deferred, resumed, registered_with, unregistered}
use Rattle.session_model.specs.declared.act.Change.{Change}
use Rattle.session_model.specs.declared.act.Change.TheVariants as change
use Rattle.session_model.specs.declared.act.Growth.{Growth}
use Rattle.session_model.specs.declared.act.Growth.TheVariants as growth
use Rattle.session_model.specs.declared.place.Place.TheVariants.{Droppable, Handle}
use Rattle.session_model.specs.Change.{changed, grown}
use Rattle.session_model.specs.Place.{takes_found}
use Rattle.session_model.specs.Standing.{Standing, is_full}
use Rattle.session_core.specs.Allowed.{MayChange, MayGrow}
use Rattle.session_core.specs.HasNames.{IsNamed, HasNames}
use Rattle.session_core.proofs.Naming.{given_within, AreAlike, apart_from, living_within, name_within, names_alike, names_dropped}

pub alike_same : (m n : Market) → n ≡ m → AreAlike m n
alike_same m n same = record {
  length = ap (λ (x : Market). length x.objects) same;
  given = λ o. ap (λ (x : Market). is_given (slot_at x o)) same;
  today = λ is. ap (λ (x : Market). slot_at x 0) same ∙ is;
}

-- so the names stay where the desk changes and its market does not
pub names_stay : (p : Standing) (of_name : List (Option ℕ)) (live : ℕ) (t : State) → t.market ≡ p.state.market
    → HasNames p of_name live → HasNames (record p { state = t }) of_name live
names_stay p of_name live t same = names_alike p of_name live t p.stopped (alike_same p.state.market t.market same)

-- what is of some kind is live
kind_given : (slot : Slot) (kind : Kind) → kind_in slot ≡ Some kind → is_given slot ≡ true
kind_given Free kind e = absurd (cc)
kind_given Today kind e = refl
kind_given Watcher kind e = refl
kind_given (Live terms) kind e = refl

-- and what is of another kind than `today` is not `today`
kind_apart : (slot : Slot) (k : Kind) → kind_in slot ≡ Some k → k ≢ kind.Today → slot ≢ Today
kind_apart Free k e other = absurd (cc)
kind_apart Today k e other = let same : k ≡ kind.Today = cc in absurd (other same)
kind_apart Watcher k e other = λ same. cc
kind_apart (Live terms) k e other = λ same. cc

pub apart_of_kind : (m : Market) (o : ℕ) (k : Kind) → kind_at m o ≡ Some k → k ≢ kind.Today → slot_at m o ≢ Today
apart_of_kind m o k e other = kind_apart (slot_at m o) k e other

-- what may be dropped is live, and is not `today`
droppable : (found : Option Kind) → takes_found Droppable found ≡ true
    → (k : Kind) × (found ≡ Some k) × (k ≢ kind.Today)
droppable None e = absurd (false≢true e)
droppable (Some kind.Today) e = absurd (false≢true e)
droppable (Some k) e = (k, refl, λ same. cc)

pub record IsDroppable (m : Market) (o : ℕ) : Type 0 where
  pub given : is_given (slot_at m o) ≡ true
  pub apart : slot_at m o ≢ Today

pub given_of_kind : (m : Market) (o : ℕ) (kind : Kind) → kind_at m o ≡ Some kind → is_given (slot_at m o) ≡ true
given_of_kind m o kind e = kind_given (slot_at m o) kind e

pub droppable_there : (m : Market) (o : ℕ) → takes_found Droppable (kind_at m o) ≡ true → IsDroppable m o
droppable_there m o e = let d = droppable (kind_at m o) e in
    record { given = given_of_kind m o d.0 d.1; apart = apart_of_kind m o d.0 d.1 d.2 }

-- a handle among them
handle_droppable : (k : Option Kind) → takes_found Handle k ≡ true → takes_found Droppable k ≡ true
handle_droppable (Some kind.QuoteHandle) e = refl
handle_droppable (Some kind.CurveHandle) e = refl
handle_droppable k e = absurd (false≢true e)

handle_stays : (m : Market) (h : ℕ) → takes_found Handle (kind_at m h) ≡ true → IsDroppable m h
handle_stays m h e = droppable_there m h (handle_droppable (kind_at m h) e)

notified_market : (x : ℕ) (s : State) → (notified x s).market ≡ s.market
unfolding notified tell
notified_market x s = by s.deferring
  where
    by : (b : Bool) → (notified_as b x s).market ≡ s.market
    by true = refl
    by false = refl

module _ (s : State) (x : ℕ) (there : IsDroppable s.market x) where
  alike_revised : (terms : Terms) → AreAlike s.market (revised x terms s).market
  unfolding revised
  alike_revised terms = record {
    length = ap (λ (m : Market). length m.objects) (notified_market x (with_terms x terms s))
        ∙ length-set s.market.objects x (Live terms);
    given = λ o. ap (λ (m : Market). is_given (slot_at m o)) (notified_market x (with_terms x terms s))
        ∙ elim (cases_eq o x) [
          | inl same ↦ subst (λ (y : ℕ). is_given (slot_at (with_terms x terms s).market y) ≡ is_given
              (slot_at s.market y)) (sym same)
              (ap is_given (get_or-set_same s.market.objects x (Live terms) Free (given_within s.market x there.given))
              ∙ sym there.given)
          | inr other ↦ ap is_given (get_or-set_other s.market.objects x o (Live terms) Free other)
        ];
    today = λ is. ap (λ (m : Market). slot_at m 0) (notified_market x (with_terms x terms s))
        ∙ get_or-set_other s.market.objects x 0 (Live terms) Free (apart_from s.market x is there.apart) ∙ is;
  }

  alike_unless : (is_same : Bool) (terms : Terms) → AreAlike s.market (revised_unless is_same x terms s).market
  alike_unless true terms = alike_same s.market s.market refl
  alike_unless false terms = alike_revised terms

  alike_value : (c : Changeable) (value : Option ℤ) → AreAlike s.market (value_set c x value s).market
  alike_value (HasValue held) value = alike_unless _ _
  alike_value c value = alike_same s.market s.market refl

  alike_weight : (c : Changeable) (member : ℕ) (weight : ℤ) → AreAlike s.market (weight_set c x member weight s).market
  alike_weight (HasParts parts) member weight = alike_unless _ _
  alike_weight c member weight = alike_same s.market s.market refl

  alike_target : (c : Changeable) (target : Option ℕ) → AreAlike s.market (target_set c x target s).market
  alike_target (HasTarget kind held) target = alike_unless _ _
  alike_target c target = alike_same s.market s.market refl

  alike_engine : (c : Changeable) (engine : Option ℕ) → AreAlike s.market (priced_by_engine c x engine s).market
  alike_engine (HasEngine flows held) engine = alike_revised _
  alike_engine c engine = alike_same s.market s.market refl

  alike_fixing : (c : Changeable) (day rate : ℤ) → AreAlike s.market (fixing_stored c x day rate s).market
  alike_fixing (HasFixings terms fixings) day rate = alike_revised _
  alike_fixing c day rate = alike_same s.market s.market refl

abbrev to : (s t u : State) → t ≡ u → AreAlike s.market u.market → AreAlike s.market t.market
to s t u same alike = subst (λ (v : State). AreAlike s.market v.market) (sym same) alike

-- a change that is made or not
alike_either : (s u : State) (b : Bool) → u.market ≡ s.market → AreAlike s.market (if b then u else s).market
alike_either s u true same = alike_same s.market u.market same
alike_either s u false same = alike_same s.market s.market refl

-- another evaluation date
alike_today : (s : State) (day : ℤ) (b : Bool) → AreAlike s.market (if b then s else notified 0 (with_today day s)).market
alike_today s day true = alike_same s.market s.market refl
alike_today s day false = record {
  length = ap (λ (m : Market). length m.objects) (notified_market 0 (with_today day s));
  given = λ o. ap (λ (m : Market). is_given (slot_at m o)) (notified_market 0 (with_today day s));
  today = λ is. ap (λ (m : Market). slot_at m 0) (notified_market 0 (with_today day s)) ∙ is;
}

-- an object of a kind other than `today` is one that stays where its terms change
there_of_kind : (m : Market) (o : ℕ) (k : Kind) → k ≢ kind.Today → kind_at m o ≡ Some k → IsDroppable m o
there_of_kind m o k other e = record { given = given_of_kind m o k e; apart = apart_of_kind m o k e other }

-- every change that takes nothing out leaves every object's life as it was
alike_changed : (s : State) (c : Change) → MayChange s c → ((o : ℕ) → c ≡ change.Drop o → ⊥) → AreAlike s.market (changed c s).market
unfolding changed quote_set relinked engine_set today_set frozen_set thawed forward_set deferred resumed unregistered
alike_changed s (change.Set q value) may stays =
    alike_value s q (there_of_kind s.market q kind.Quote (λ same. cc) may) (changeable (terms_at s.market q)) value
alike_changed s (change.Link h target) may stays =
    alike_target s h (handle_stays s.market h may.handle) (changeable (terms_at s.market h)) target
alike_changed s (change.Engine i engine) may stays =
    alike_engine s i (there_of_kind s.market i kind.Flows (λ same. cc) may.instrument) (changeable (terms_at s.market i)) engine
alike_changed s (change.Today day) may stays = alike_today s day (int_eq s.market.today day)
alike_changed s (change.Thaw o) may stays = alike_either s _ (is_frozen s o) (notified_market o (unfrozen o s))
alike_changed s change.Resume may stays = alike_either s _ s.deferring (told_market (is_source s) s)
alike_changed s (change.Drop o) may stays = absurd (stays o refl)
alike_changed s c may stays = alike_same s.market s.market refl

pub change_alike : (s t : State) (c : Change) → MayChange s c → ((o : ℕ) → c ≡ change.Drop o → ⊥) → t ≡ changed c s → AreAlike s.market t.market
change_alike s t c may stays is = to s t (changed c s) is (alike_changed s c may stays)

-- and what is stored beside them
alike_grown : (s : State) (g : Growth) → MayGrow s g → AreAlike s.market (grown g s).market
unfolding grown member_set fixing_added registered_with
alike_grown s (growth.Member k member weight) may =
    alike_weight s k (there_of_kind s.market k kind.Composite (λ same. cc) may.composite) (changeable (terms_at s.market k)) member weight
alike_grown s (growth.Fixing x day rate) may =
    alike_fixing s x (there_of_kind s.market x kind.Index (λ same. cc) may.index) (changeable (terms_at s.market x)) day rate
alike_grown s (growth.Register w o) may = alike_same s.market s.market refl

pub growth_alike : {A E : Type 0} (s t : State) (g : Growth) (result : Result A E) → MayGrow s g
    → OnOk result (t ≡ grown g s) → OnErr result (t ≡ s) → AreAlike s.market t.market
growth_alike s t g (Ok x) may is same = to s t (grown g s) is (alike_grown s g may)
growth_alike s t g (Err e) may is same = to s t s same (alike_same s.market s.market refl)

pub stored_alike : (s t : State) (calls : List (ℕ × Outcome)) → t ≡ stored s calls → AreAlike s.market t.market
unfolding stored
stored_alike s t calls is = to s t (stored s calls) is (alike_same s.market s.market refl)

-- what keeps the state of a standing sound
pub sound_as : (p q : Standing) (t : State) → p ≡ q → ((calc : Calc) → IsSound calc p.state → IsSound calc t)
    → (calc : Calc) → IsSound calc q.state → IsSound calc t
sound_as p q t same keeps calc sound = keeps calc (subst (λ (r : Standing). IsSound calc r.state) (sym same) sound)

-- there is room for one object more
pub record HasRoom (m : Market) : Type 0 where
  pub live : live_count m < 4096
  pub numbers : length m.objects < 65536

pub room_of : (m : Market) → is_full m ≡ false → HasRoom m
unfolding is_full
room_of m e = record {
  live = below (live_count m) 4096 (or_left_false _ _ e);
  numbers =
      below (length m.objects) 65536 (or_right_false _ _ e);
}
  where
    or_left_false : (a b : Bool) → (a || b) ≡ false → a ≡ false
    or_left_false false b e = refl
    or_left_false true b e = absurd (false≢true (sym e))

    or_right_false : (a b : Bool) → (a || b) ≡ false → b ≡ false
    or_right_false false b e = e
    or_right_false true b e = absurd (false≢true (sym e))

    below : (a b : ℕ) → nat_le b a ≡ false → a < b
    below a b e = leb-false b a e

-- what an object that may be dropped needs: it has its name, which is in the table, and it is counted
pub record MayRemove (p : Standing) (of_name : List (Option ℕ)) (live name o : ℕ) : Type 0 where
  pub named : IsNamed p.state.market p.of_object name o
  pub within : name < length of_name
  pub living : 1 ≤ live
  pub apart : 0 ≢ o

pub may_remove : (p q : Standing) (of_name : List (Option ℕ)) (live name o place : ℕ) (items : List ℕ)
    → HasNames p of_name live → p ≡ q → takes_found Droppable (kind_at q.state.market o) ≡ true
    → items ≡ p.of_object → place ≡ o → name ≡ slice_index_or items place name → MayRemove p of_name live name o
may_remove p q of_name live name o place items h same taken is at read =
    let there = droppable_there p.state.market o
    (subst (λ (r : Standing). takes_found Droppable (kind_at r.state.market o) ≡ true) (sym same) taken) in
    let below : o < length p.of_object =
    subst (λ (n : ℕ). o < n) (sym h.objects) (given_within p.state.market o there.given) in
    let here : name ≡ slice_index_or p.of_object o name =
    read ∙ ap (λ (xs : List ℕ). slice_index_or xs place name) is
    ∙ ap (λ (i : ℕ). slice_index_or p.of_object i name) at in
    let named : IsNamed p.state.market p.of_object name o = (
      there.given,
      get_or_from_slice_get p.of_object o name 0
          (slice_get_read p.of_object (length p.of_object) o name refl below here),
    ) in
    record {
      named = named;
      within = name_within p of_name live name o h named;
      living = let some = living_within p.state.market o there.given in omega (arith, some, h.living);
      apart = apart_from p.state.market o h.today there.apart;
    }

pub names_removed : (p : Standing) (of_name : List (Option ℕ)) (live name at o : ℕ) (state : State)
    → HasNames p of_name live → MayRemove p of_name live name o → at ≡ name → state ≡ dropped o p.state
    → HasNames (record p { state = state }) (slice_set of_name at None) (live - 1)
names_removed p of_name live name at o state h may same is =
    let less : live ≡ (live - 1) + 1 = let some = may.living in omega (arith, some) in
    subst (λ (n : ℕ). HasNames (record p { state = state }) (slice_set of_name n None) (live - 1)) (sym same)
    (names_dropped p of_name (live - 1) name o state
    (subst (λ (n : ℕ). HasNames p of_name n) less h) may.named may.apart is)

pub asked_alike : (calc : Calc) (s t : State) (o : ℕ) → t ≡ asked calc o s → AreAlike s.market t.market
unfolding asked
asked_alike calc s t o is = stored_alike s t (runs calc s o) is

pub recalced_alike : (calc : Calc) (s t : State) (o : ℕ) → t ≡ recalced calc o s → AreAlike s.market t.market
unfolding recalced stored
recalced_alike calc s t o is = to s t (recalced calc o s) is
    (alike_same s.market _ (notified_market o (recalced_bare calc o s (stored s (inputs_walk calc s o).calls))))

pub keeps_as : (p q : Standing) (t : State) → p ≡ q → KeepsCurrent p.state t → KeepsCurrent q.state t
keeps_as p q t same keeps = subst (λ (r : Standing). KeepsCurrent r.state t) same keeps
