-- What changes do to a state.
use Rattle.std.specs.Prelude.{ℕ, Bool, true, false, ◌==◌, ◌&&◌, ◌||◌, if◌then◌else◌, nat_lt, List, [], ◌∷◌, ◌++◌, ℤ, Option, slice_set}
use Rattle.std.specs.Option.{option_eq}
use Rattle.std.specs.Ordering.{int_eq}
use Rattle.desk_terms.specs.declared.terms.Terms.{Terms}
use Rattle.desk_terms.specs.declared.terms.Terms.TheVariants.{Quote, Handle, Index, Composite, Flows}
use Rattle.flow_terms.specs.Fixings.{with_fixing}
use Rattle.desk_model.specs.declared.kept.Kept.{Kept}
use Rattle.desk_model.specs.declared.slot.Slot.{Slot}
use Rattle.desk_model.specs.declared.slot.Slot.TheVariants.{Free, Today, Watcher, Live}
use Rattle.desk_model.specs.Market.{terms_at, without}
use Rattle.desk_model.specs.State.{State, kept_at, unpriced, is_frozen, is_source, each_kept}
use Rattle.desk_model.specs.Told.{tell}
use Rattle.desk_model.specs.Changeable.{Changeable, changeable, weight_of, with_member}
use Rattle.desk_model.specs.Changeable.Changeable.{HasValue, HasTarget, HasFixings, HasParts, HasEngine, HasNone}

-- the state of a new session: `today` alone, of which nothing is stored
abbrev pub start : ℤ → State
start today = record {
  market = record { today = today; objects = Today ∷ [] };
  kept = unpriced ∷ [];
  deferring = false;
  registrations = [];
  noticed = [];
}

-- the state with one number more
abbrev pub added : Slot → State → State
added slot state = record state { market = record state.market { objects = state.market.objects ++ slot ∷ [] }; kept = state.kept ++ unpriced ∷ [] }

-- an object is made
unfoldable pub made : Terms → State → State
made terms state = added (Live terms) state

-- a watcher is made: it is registered with nothing
unfoldable pub watching : State → State
watching state = added Watcher state

-- what is stored of one object, changed
abbrev pub with_kept : ℕ → Kept → State → State
with_kept x kept state = record state { kept = slice_set state.kept x kept }

-- x holds its notice back
abbrev pub sourced : ℕ → State → State
sourced x state = with_kept x (record (kept_at state x) { source = true }) state

-- A CHANGED OBJECT tells its observers, or, where deferral is on, is a deferred source from then on
abbrev pub notified_as : Bool → ℕ → State → State
notified_as true x state = sourced x state
notified_as false x state = tell (λ y. y == x) state

-- x changed
unfoldable pub notified : ℕ → State → State
notified x state = notified_as state.deferring x state

-- an object with other terms, nobody being told; its own value is not current
abbrev pub with_terms : ℕ → Terms → State → State
with_terms x terms state = record state {
  market = record state.market { objects = slice_set state.market.objects x (Live terms) };
  kept = slice_set state.kept x (record (kept_at state x) { current = false });
}

-- a change of an object's own terms
unfoldable pub revised : ℕ → Terms → State → State
revised x terms state = notified x (with_terms x terms state)

-- the same, where something changes
abbrev pub revised_unless : Bool → ℕ → Terms → State → State
revised_unless same x terms state = if same then state else revised x terms state

-- a quote is set or unset: nothing where the value is the one held (QuantLib's `SimpleQuote::setValue`)
abbrev pub value_set : Changeable → ℕ → Option ℤ → State → State
value_set (HasValue held) q value state = revised_unless (option_eq int_eq held value) q (Quote value) state
value_set (HasTarget kind held) q value state = state
value_set (HasFixings terms fixings) q value state = state
value_set (HasParts parts) q value state = state
value_set (HasEngine flows held) q value state = state
value_set HasNone q value state = state

-- `set` and `unset` of a quote
unfoldable pub quote_set : ℕ → Option ℤ → State → State
quote_set q value state = value_set (changeable (terms_at state.market q)) q value state

abbrev pub number_eq : ℕ → ℕ → Bool
number_eq x y = x == y

-- a handle is linked or unlinked: nothing where the target is the one held (QuantLib's `RelinkableHandle::linkTo`)
abbrev pub target_set : Changeable → ℕ → Option ℕ → State → State
target_set (HasValue held) h target state = state
target_set (HasTarget kind held) h target state =
    revised_unless (option_eq number_eq held target) h (Handle kind target) state
target_set (HasFixings terms fixings) h target state = state
target_set (HasParts parts) h target state = state
target_set (HasEngine flows held) h target state = state
target_set HasNone h target state = state

unfoldable pub relinked : ℕ → Option ℕ → State → State
relinked h target state = target_set (changeable (terms_at state.market h)) h target state

-- an instrument is given an engine, or none: it always tells (QuantLib's `Instrument::setPricingEngine`)
abbrev pub priced_by_engine : Changeable → ℕ → Option ℕ → State → State
priced_by_engine (HasValue held) i engine state = state
priced_by_engine (HasTarget kind held) i engine state = state
priced_by_engine (HasFixings terms fixings) i engine state = state
priced_by_engine (HasParts parts) i engine state = state
priced_by_engine (HasEngine flows held) i engine state = revised i (Flows flows engine) state
priced_by_engine HasNone i engine state = state

-- `engine` of an instrument
unfoldable pub engine_set : ℕ → Option ℕ → State → State
engine_set i engine state = priced_by_engine (changeable (terms_at state.market i)) i engine state

-- a member of a composite has another weight: nothing where the weight is the one held (QuantLib's
-- `CompositeInstrument::add`)
abbrev pub weight_set : Changeable → ℕ → ℕ → ℤ → State → State
weight_set (HasValue held) k member weight state = state
weight_set (HasTarget kind held) k member weight state = state
weight_set (HasFixings terms fixings) k member weight state = state
weight_set (HasParts parts) k member weight state =
    revised_unless (int_eq (weight_of parts member) weight) k (Composite (with_member parts member weight)) state
weight_set (HasEngine flows held) k member weight state = state
weight_set HasNone k member weight state = state

-- `member` of a composite: a weight of 0 takes the member out
unfoldable pub member_set : ℕ → ℕ → ℤ → State → State
member_set k member weight state = weight_set (changeable (terms_at state.market k)) k member weight state

-- a rate is stored for a day on which an index has none (QuantLib's `Index::addFixing`)
abbrev pub fixing_stored : Changeable → ℕ → ℤ → ℤ → State → State
fixing_stored (HasValue held) x day rate state = state
fixing_stored (HasTarget kind held) x day rate state = state
fixing_stored (HasFixings terms fixings) x day rate state = revised x (Index terms (with_fixing fixings day rate)) state
fixing_stored (HasParts parts) x day rate state = state
fixing_stored (HasEngine flows held) x day rate state = state
fixing_stored HasNone x day rate state = state

unfoldable pub fixing_added : ℕ → ℤ → ℤ → State → State
fixing_added x day rate state = fixing_stored (changeable (terms_at state.market x)) x day rate state

-- another evaluation date: nothing where it is the one held
abbrev pub with_today : ℤ → State → State
with_today day state = record state { market = record state.market { today = day } }

unfoldable pub today_set : ℤ → State → State
today_set day state = if int_eq state.market.today day then state else notified 0 (with_today day state)

-- the registrations in which neither the watcher nor the object is x
abbrev pub without_pairs : ℕ → List (ℕ × ℕ) → List (ℕ × ℕ)
without_pairs x [] = []
without_pairs x (pair ∷ pairs) =
    if (pair.0 == x) || (pair.1 == x)
    then without_pairs x pairs
    else pair ∷ without_pairs x pairs

-- `drop` of an object that none has among its edges, or of a watcher: nothing of x stays but its number. It is registered
-- with nothing, nobody is registered with it, and it is told no more.
unfoldable pub dropped : ℕ → State → State
dropped x state = record state {
  market = record state.market { objects = slice_set state.market.objects x Free };
  kept = slice_set state.kept x unpriced;
  registrations = without_pairs x state.registrations;
  noticed = without x state.noticed;
}

-- a registration more, at its place, unless it is there
abbrev pub with_pair : ℕ → ℕ → List (ℕ × ℕ) → List (ℕ × ℕ)
with_pair w o [] = (w, o) ∷ []
with_pair w o (pair ∷ pairs) =
    if (pair.0 == w) && (pair.1 == o)
    then pair ∷ pairs
    else if nat_lt w pair.0 || ((pair.0 == w) && nat_lt o pair.1)
    then (w, o) ∷ pair ∷ pairs
    else pair ∷ with_pair w o pairs

-- a watcher is registered with an object: nothing where it is already (QuantLib's `Observer::registerWith`)
unfoldable pub registered_with : ℕ → ℕ → State → State
registered_with w o state = record state { registrations = with_pair w o state.registrations }

abbrev pub without_pair : ℕ → ℕ → List (ℕ × ℕ) → List (ℕ × ℕ)
without_pair w o [] = []
without_pair w o (pair ∷ pairs) =
    if (pair.0 == w) && (pair.1 == o)
    then without_pair w o pairs
    else pair ∷ without_pair w o pairs

-- it is so no more: nothing where it was not; no notice that is held back is lost (`Observer::unregisterWith`)
unfoldable pub unregistered : ℕ → ℕ → State → State
unregistered w o state = record state { registrations = without_pair w o state.registrations }

-- a told watcher is handed out, and forgotten
unfoldable pub handed_out : ℕ → State → State
handed_out w state = record state { noticed = without w state.noticed }

-- an object is frozen: nobody is told (QuantLib's `LazyObject::freeze`)
unfoldable pub frozen_set : ℕ → State → State
frozen_set x state = with_kept x (record (kept_at state x) { frozen = true }) state

-- an object passes each notice on, or does so no more (QuantLib's `LazyObject::alwaysForwardNotifications`)
unfoldable pub forward_set : ℕ → Bool → State → State
forward_set x forward state = with_kept x (record (kept_at state x) { forward = forward }) state

-- an object is frozen no more, before its notice
abbrev pub unfrozen : ℕ → State → State
unfrozen x state = with_kept x (record (kept_at state x) { frozen = false }) state

-- an object is thawed and tells: nothing where it is not frozen (QuantLib's `LazyObject::unfreeze`)
unfoldable pub thawed : ℕ → State → State
thawed x state = if is_frozen state x then notified x (unfrozen x state) else state

-- notices are held back from now on (QuantLib's `ObservableSettings::disableUpdates`, deferred)
unfoldable pub deferred : State → State
deferred state = record state { deferring = true }

-- all deferred sources tell together, and none is a source any more; nothing where deferral is off
abbrev pub all_told : State → State
all_told state = tell (is_source state) state

-- `resume`: all sources tell at once, and none is one any more
unfoldable pub resumed : State → State
resumed state =
    if state.deferring
    then record (all_told state) { deferring = false; kept = each_kept (λ o kept. record kept { source = false }) 0 (all_told state).kept }
    else state
