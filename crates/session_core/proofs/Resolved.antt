-- What a command that is not refused found.
use Rattle.std.proofs.Common.{◌≡◌, ◌∙◌, ℕ, ◌<◌, ◌≤◌, ◌≤ℤ◌, pos, negsuc, neg_ℤ, arith, Bool, true, false, if◌then◌else◌, length, [], Option, Some, None, Result, Ok, Err, ℤ, refl, sym, subst, ap}
use Rattle.std.specs.Prelude.{IfOk, is_some, not, unsigned_abs}
use Rattle.std.proofs.lemmas.Bool.{false≢true}
use Rattle.std.proofs.lemmas.Int.{ints}
use Rattle.desk_terms.specs.declared.terms.Terms.{Terms}
use Rattle.desk_terms.specs.declared.terms.Terms.TheVariants as terms
use Rattle.desk_terms.specs.declared.terms.HandleKind.TheVariants as handle
use Rattle.desk_terms.specs.declared.kind.Kind.{Kind}
use Rattle.desk_terms.specs.declared.kind.Kind.TheVariants as kind
use Rattle.desk_terms.specs.declared.kind.Wanted.{Wanted}
use Rattle.desk_terms.specs.declared.kind.Wanted.TheVariants as wanted
use Rattle.desk_model.specs.declared.slot.Slot.{Slot}
use Rattle.desk_model.specs.declared.slot.Slot.TheVariants.{Free, Today, Watcher, Live}
use Rattle.desk_model.specs.Market.{slot_at, is_watcher, is_observable, kind_in, kind_at, terms_in, role_of, is_lazy, least_user}
use Rattle.desk_model.specs.State.{least_source}
use Rattle.desk_model.specs.Told.{is_registered}
use Rattle.desk_terms.specs.Kind.{role}
use Rattle.desk_terms.specs.Terms.{kind_of}
use Rattle.flow_terms.specs.Fixings.{IsRate}
use Rattle.desk_model.specs.Links.{AreOfKind, serves_as, is_lazy_at}
use Rattle.desk_terms.specs.Reading.{AreInRange}
use Rattle.session_commands.specs.declared.command.Command.{Command}
use Rattle.session_commands.specs.declared.command.Command.TheVariants as command
use Rattle.session_commands.specs.declared.refusal.Refusal.{Refusal}
use Rattle.session_commands.specs.declared.refusal.Refusal.TheVariants as refusal
use Rattle.session_commands.specs.Whole.{IsCommand}
use Rattle.session_commands.specs.Parts.{parts_of}
use Rattle.session_commands.specs.Table.{row_of}
use Rattle.session_model.specs.declared.act.Act.{Act}
use Rattle.session_model.specs.declared.act.Act.TheVariants as act
use Rattle.session_model.specs.declared.act.Change.TheVariants as change
use Rattle.session_model.specs.declared.act.Growth.TheVariants as growth
use Rattle.session_model.specs.declared.act.How.TheVariants as how
use Rattle.session_model.specs.declared.place.Place.{Place}
use Rattle.session_model.specs.declared.place.Place.TheVariants as place
use Rattle.session_model.specs.Place.{takes_found}
use Rattle.session_model.specs.Standing.{Standing, object_named, is_full, IsKnown}
use Rattle.session_model.specs.Resolve.{object_or_refusal, find, with_found, unless, unless_used, unless_kept, unless_late, unless_taken, closes, joins, rate_at, target_of, handle_kind, engaging, making, quote_input, member, curve, index, engine, pairing, resolve}
use Rattle.session_core.specs.Allowed.{IsAllowed, MayPair}

-- what is found is of a kind that the place takes
pub find_taken : (w : Place) (p : Standing) (name o : ℕ) → find w p name ≡ Ok o
    → takes_found w (kind_at p.state.market o) ≡ true
unfolding find
find_taken w p name o e = by (object_named p name) e
  where
    pick : (x : ℕ) (b : Bool) → takes_found w (kind_at p.state.market x) ≡ b
        → (if b then Ok x else Err (refusal.Kind name)) ≡ Ok o → takes_found w (kind_at p.state.market o) ≡ true
    pick x true is e = let same : x ≡ o = cc in
        subst (λ (y : ℕ). takes_found w (kind_at p.state.market y) ≡ true) same is
    pick x false is e = absurd (cc)

    by : (r : Option ℕ) → object_or_refusal w p.state.market name r ≡ Ok o → takes_found w (kind_at p.state.market o) ≡ true
    by None e = absurd (cc)
    by (Some x) e = pick x (takes_found w (kind_at p.state.market x)) refl e

taken_input : (k : Option Kind) (w : Wanted) → takes_found (place.Input w) k ≡ true → serves_as k w ≡ true
taken_input None w e = e
taken_input (Some k) w e = e

taken_quote : (k : Option Kind) → takes_found place.Quote k ≡ true → k ≡ Some kind.Quote
taken_quote (Some kind.Quote) e = refl
taken_quote k e = absurd (false≢true e)

taken_composite : (k : Option Kind) → takes_found place.Composite k ≡ true → k ≡ Some kind.Composite
taken_composite (Some kind.Composite) e = refl
taken_composite k e = absurd (false≢true e)

taken_flows : (k : Option Kind) → takes_found place.Flows k ≡ true → k ≡ Some kind.Flows
taken_flows (Some kind.Flows) e = refl
taken_flows k e = absurd (false≢true e)

taken_index : (k : Option Kind) → takes_found (place.Input wanted.Index) k ≡ true → k ≡ Some kind.Index
taken_index (Some kind.Index) e = refl
taken_index k e = absurd (false≢true e)

-- a curve or an implied curve is priced
curve_lazy : (k : Kind) → takes_found (place.Input wanted.CurveTarget) (Some k) ≡ true → is_lazy (role k) ≡ true
curve_lazy kind.Curve e = refl
curve_lazy kind.Implied e = refl
curve_lazy k e = absurd (false≢true e)

taken_curve : (slot : Slot) → takes_found (place.Input wanted.CurveTarget) (kind_in slot) ≡ true
    → is_lazy (role_of (terms_in slot)) ≡ true
taken_curve Free e = absurd (false≢true e)
taken_curve Today e = absurd (false≢true e)
taken_curve Watcher e = absurd (false≢true e)
taken_curve (Live terms) e = curve_lazy (kind_of terms) e

-- a rate of at most 10 either way
rate_low : (rate : ℤ) → unsigned_abs rate ≤ 10_000_000_000 → neg_ℤ (pos 10_000_000_000) ≤ℤ rate
rate_low (pos n) e = omega (arith, ints)
rate_low (negsuc n) e = omega (arith, ints)

rate_high : (rate : ℤ) → unsigned_abs rate ≤ 10_000_000_000 → rate ≤ℤ pos 10_000_000_000
rate_high (pos n) e = omega (arith, ints)
rate_high (negsuc n) e = omega (arith, ints)

rate_within : (rate : ℤ) → unsigned_abs rate ≤ 10_000_000_000 → IsRate rate
rate_within rate e = (rate_low rate e, rate_high rate e)

taken_lazy : (slot : Slot) → takes_found place.Priced (kind_in slot) ≡ true → is_lazy (role_of (terms_in slot)) ≡ true
taken_lazy Free e = absurd (false≢true e)
taken_lazy Today e = absurd (false≢true e)
taken_lazy Watcher e = absurd (false≢true e)
taken_lazy (Live terms) e = e

-- what is found in a place of priced objects is lazy
pub found_lazy : (p : Standing) (name o : ℕ) → find place.Priced p name ≡ Ok o → is_lazy_at p.state.market o ≡ true
found_lazy p name o e = taken_lazy (slot_at p.state.market o) (find_taken place.Priced p name o e)

-- nothing that terms are is a watcher
live_watcher : (t : Terms) → takes_found place.Watcher (Some (kind_of t)) ≡ false
live_watcher (terms.Quote value) = refl
live_watcher (terms.Derived minus first second) = refl
live_watcher (terms.Handle handle.Quote target) = refl
live_watcher (terms.Handle handle.Curve target) = refl
live_watcher (terms.Curve t) = refl
live_watcher (terms.Implied c reference) = refl
live_watcher (terms.Index t fixings) = refl
live_watcher (terms.Engine c) = refl
live_watcher (terms.Stock quote) = refl
live_watcher (terms.Composite parts) = refl
live_watcher (terms.Flows flows e) = refl

taken_watcher : (slot : Slot) → takes_found place.Watcher (kind_in slot) ≡ true → is_watcher slot ≡ true
taken_watcher Free e = absurd (false≢true e)
taken_watcher Today e = absurd (false≢true e)
taken_watcher Watcher e = refl
taken_watcher (Live terms) e = absurd (false≢true (sym (live_watcher terms) ∙ e))

taken_observable : (slot : Slot) → takes_found place.Observable (kind_in slot) ≡ true → is_observable slot ≡ true
taken_observable Free e = absurd (false≢true e)
taken_observable Today e = refl
taken_observable Watcher e = absurd (false≢true e)
taken_observable (Live terms) e = refl

-- what is found for a registration is a watcher, and what it may watch
pub found_pair : (p : Standing) (w o x y : ℕ) → find place.Watcher p w ≡ Ok x → find place.Observable p o ≡ Ok y → MayPair p.state x y
found_pair p w o x y watcher subject = record {
  watcher = taken_watcher (slot_at p.state.market x) (find_taken place.Watcher p w x watcher);
  subject = taken_observable (slot_at p.state.market y) (find_taken place.Observable p o y subject);
}

-- every act that these lead to is allowed
module _ (p : Standing) where
  empty_inputs : (is_curve : Bool) → AreOfKind p.state.market (Some (terms.Handle (handle_kind is_curve) None))
  empty_inputs true = tt
  empty_inputs false = tt

  abbrev AllAllowed : Result Act Refusal → Type 0
  AllAllowed r = IfOk r (IsAllowed p)

  finds : (w : Place) (name : ℕ) (rest : ℕ → Result Act Refusal)
      → ((o : ℕ) → takes_found w (kind_at p.state.market o) ≡ true → AllAllowed (rest o))
      → AllAllowed (with_found (find w p name) rest)
  unfolding with_found
  finds w name rest all = by (find w p name) refl
    where
      by : (r : Result ℕ Refusal) → find w p name ≡ r → AllAllowed (with_found r rest)
      by (Ok o) e = all o (find_taken w p name o e)
      by (Err refusal) e = tt

  untaken : (name : ℕ) (rest : Result Act Refusal) → (object_named p name ≡ None → AllAllowed rest)
      → AllAllowed (unless_taken p name rest)
  unfolding unless_taken
  untaken name rest all = by (object_named p name) refl
    where
      by : (r : Option ℕ) → object_named p name ≡ r → AllAllowed (if is_some r then Err (refusal.Taken name) else rest)
      by None e = all e
      by (Some o) e = tt

  unless_allowed : (b : Bool) (why : Refusal) (a : Act) → (b ≡ false → IsAllowed p a) → AllAllowed (unless b why a)
  unfolding unless
  unless_allowed true why a all = tt
  unless_allowed false why a all = all refl

  kept_allowed : (rate : Option ℤ) (a : Act) → (rate ≡ None → IsAllowed p a) → AllAllowed (unless_kept rate a)
  unfolding unless_kept
  kept_allowed None a all = all refl
  kept_allowed (Some rate) a all = tt

  used_allowed : (user : Option ℕ) (a : Act) → (user ≡ None → IsAllowed p a) → AllAllowed (unless_used user a)
  unfolding unless_used
  used_allowed None a all = all refl
  used_allowed (Some user) a all = tt

  late_allowed : (source : Option ℕ) (a : Act) → (source ≡ None → IsAllowed p a) → AllAllowed (unless_late source a)
  unfolding unless_late
  late_allowed None a all = all refl
  late_allowed (Some source) a all = tt

  engages : (x : ℕ) (e : Option ℕ) → kind_at p.state.market x ≡ Some kind.Flows → AllAllowed (engaging p x e)
  engages x None is = record { instrument = is; engine = tt }
  engages x (Some e) is =
      finds engine e _ (λ y taken. record { instrument = is; engine = (taken_input _ wanted.Engine taken, tt) })

  -- an object of these terms may be made under this name
  may_make : (name : ℕ) (t : Terms) → name < length p.names → AreInRange t
      → AreOfKind p.state.market (Some t) → object_named p name ≡ None → AllAllowed (making p name t)
  may_make name t named is inputs free =
      unless_allowed (is_full p.state.market) refusal.TooMany (act.Make name t) (λ room. record { named = named; free = free; room = room; ranged = is; inputs = inputs })

  derives : (name a b : ℕ) (minus : Bool) → name < length p.names → object_named p name ≡ None
      → AllAllowed (with_found (find quote_input p a)
      (λ x. with_found (find quote_input p b) (λ y. making p name (terms.Derived minus x y))))
  derives name a b minus named free = finds quote_input a _ (λ x first. finds quote_input b _ (λ y second.
      may_make name (terms.Derived minus x y) named tt
      (taken_input _ wanted.QuoteInput first, (taken_input _ wanted.QuoteInput second, tt)) free))

  pairs : (w o : ℕ) (rest : ℕ → ℕ → Result Act Refusal)
      → ((x y : ℕ) → MayPair p.state x y → AllAllowed (rest x y)) → AllAllowed (pairing p w o rest)
  pairs w o rest all = finds place.Watcher w _ (λ x watcher. finds place.Observable o _ (λ y subject. all x y (record {
    watcher = taken_watcher (slot_at p.state.market x) watcher;
    subject = taken_observable (slot_at p.state.market y) subject;
  })))

  pub allowed : (c : Command) → IsKnown p c → AllAllowed (resolve p c)
  unfolding resolve IsCommand parts_of row_of
  allowed (command.Quote name value) known = untaken name _ (may_make name (terms.Quote value) known.first tt tt)
  allowed (command.Sum name a b) known = untaken name _ (derives name a b false known.first)
  allowed (command.Difference name a b) known = untaken name _ (derives name a b true known.first)
  allowed (command.Handle name is_curve) known =
      untaken name _ (may_make name (terms.Handle (handle_kind is_curve) None) known.first tt (empty_inputs is_curve))
  allowed (command.Stock name q) known =
      untaken name _ (λ free. finds quote_input q _
      (λ x is. may_make name (terms.Stock x) known.first tt (taken_input _ wanted.QuoteInput is, tt) free))
  allowed (command.Composite name) known = untaken name _ (may_make name (terms.Composite []) known.first (record { count = omega arith; each = tt }) tt)
  allowed (command.Member k i weight) known =
      finds place.Composite k _ (λ x is_composite. finds member i _ (λ y is_member. unless_allowed (joins weight p.state.market x y) refusal.Cycle
      (act.Grow (growth.Member x y weight)) (λ clear. record {
        composite = taken_composite _ is_composite;
        member = taken_input _ wanted.Member is_member;
        opens = clear;
        limit = known.third;
      })))
  allowed (command.Set q value) known = finds place.Quote q _ (λ x is. taken_quote _ is)
  allowed (command.Unset q) known = finds place.Quote q _ (λ x is. taken_quote _ is)
  allowed (command.Link h t) known =
      finds place.Handle h _ (λ x is_handle. finds (target_of p.state.market x) t _ (λ y is. unless_allowed (closes p.state.market x y) refusal.Cycle
      (act.Quiet (change.Link x (Some y))) (λ clear. record {
        handle = is_handle;
        target = record { taken = is; opens = clear };
      })))
  allowed (command.Unlink h) known = finds place.Handle h _ (λ x is. record { handle = is; target = tt })
  allowed (command.Engine i e) known = finds place.Flows i _ (λ x is. engages x e (taken_flows _ is))
  allowed (command.Today day) known = tt
  allowed (command.Fixing x day rate) known =
      finds index x _ (λ y is. kept_allowed (rate_at p.state.market y day)
      (act.Grow (growth.Fixing y day rate)) (λ free. record {
        index = taken_index _ is;
        rate = rate_within rate known.third;
        free = free;
      }))
  allowed (command.Freeze o) known = finds place.Priced o _ (λ x is. taken_lazy (slot_at p.state.market x) is)
  allowed (command.Thaw o) known = finds place.Priced o _ (λ x is. taken_lazy (slot_at p.state.market x) is)
  allowed (command.Recalc o) known =
      finds place.Priced o _ (λ x is. late_allowed (least_source p.state x) (act.Price o x how.Recalc) (λ early. record {
        lazy = taken_lazy (slot_at p.state.market x) is;
        early = early;
      }))
  allowed (command.Forward o is_on) known =
      finds place.Priced o _ (λ x is. taken_lazy (slot_at p.state.market x) is)
  allowed command.Defer known = tt
  allowed command.Resume known = tt
  allowed (command.Watch w action) known =
      untaken w _ (λ free. unless_allowed (is_full p.state.market) refusal.TooMany (act.Watch w action)
      (λ room. record { named = known.first; free = free; room = room }))
  allowed (command.Register w o) known =
      pairs w o _ (λ x y pair. unless_allowed (is_registered p.state x y) refusal.AlreadyRegistered (act.Grow (growth.Register x y))
      (λ free. record { pair = pair; free = free }))
  allowed (command.Unregister w o) known =
      pairs w o _ (λ x y pair. unless_allowed (not (is_registered p.state x y)) refusal.NotRegistered
      (act.Quiet (change.Unregister x y)) (λ found. pair))
  allowed (command.Drop o) known =
      finds place.Droppable o _ (λ x is. used_allowed (least_user p.state.market x)
      (act.Quiet (change.Drop x)) (λ free. record { taken = is; unused = free }))
  allowed (command.Ask o) known = finds place.Priced o _ (λ x is. taken_lazy (slot_at p.state.market x) is)
  allowed (command.Df c day) known = finds curve c _ (λ x is. taken_curve (slot_at p.state.market x) is)

-- a live object that the place takes is found
found_named : (w : Place) (p : Standing) (name o : ℕ) → object_named p name ≡ Some o
    → takes_found w (kind_at p.state.market o) ≡ true → find w p name ≡ Ok o
unfolding find
found_named w p name o named taken =
    ap (object_or_refusal w p.state.market name) named
    ∙ ap (λ (b : Bool). if b then Ok o else Err (refusal.Kind name)) taken

-- what the two commands that are met most resolve to
pub set_resolves : (p : Standing) (c : Command) (q o : ℕ) (value : ℤ) → c ≡ command.Set q value → object_named p q ≡ Some o
    → takes_found place.Quote (kind_at p.state.market o) ≡ true → Ok (act.Quiet (change.Set o (Some value))) ≡ resolve p c
unfolding resolve with_found
set_resolves p c q o value same named taken =
    ap (λ (r : Result ℕ Refusal). with_found r (λ x. Ok (act.Quiet (change.Set x (Some value)))))
    (sym (found_named place.Quote p q o named taken)) ∙ ap (resolve p) (sym same)

pub ask_resolves : (p : Standing) (c : Command) (name o : ℕ) → c ≡ command.Ask name → object_named p name ≡ Some o
    → takes_found place.Priced (kind_at p.state.market o) ≡ true → Ok (act.Price name o how.Ask) ≡ resolve p c
unfolding resolve with_found
ask_resolves p c name o same named taken =
    ap (λ (r : Result ℕ Refusal). with_found r (λ x. Ok (act.Price name x how.Ask)))
    (sym (found_named place.Priced p name o named taken)) ∙ ap (resolve p) (sym same)

pub resolved_allowed : (p : Standing) (c : Command) (a : Act) → IsKnown p c → Ok a ≡ resolve p c → IsAllowed p a
resolved_allowed p c a known is = subst (λ (r : Result Act Refusal). IfOk r (IsAllowed p)) (sym is) (allowed p c known)
