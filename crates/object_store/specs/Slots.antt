-- The state that the parts of a desk stand for.
use Rattle.std.specs.Prelude.{ℕ, ℤ, Bool, true, false, ◌||◌, if◌then◌else◌, List, Option, Some, None, Result, slice_index_or}
use Rattle.std.specs.Borrow.{Bor}
use Rattle.desk_terms.specs.declared.terms.Terms.{Terms}
use Rattle.desk_terms.specs.declared.terms.Terms.TheVariants.{Quote, Derived, Handle, Curve, Implied, Index, Engine, Stock, Composite, Flows}
use Rattle.desk_terms.specs.declared.value.Value.{Value}
use Rattle.desk_terms.specs.declared.cause.Cause.{Cause}
use Rattle.desk_terms.specs.Reading.{Outcome, outcome_in}
use Rattle.std.specs.Option.{option_eq}
use Rattle.std.specs.Ordering.{int_eq}
use Rattle.desk_model.specs.declared.slot.Slot.{Slot}
use Rattle.desk_model.specs.declared.slot.Slot.TheVariants as slot
use Rattle.desk_model.specs.Changeable.{Changeable, changeable}
use Rattle.desk_model.specs.Changeable.Changeable.{HasValue, HasTarget, HasFixings, HasParts, HasEngine, HasNone}
use Rattle.desk_model.specs.declared.kept.Kept.{Kept}
use Rattle.desk_model.specs.Market.{Market}
use Rattle.desk_model.specs.State.{State, unpriced, kept_at, last_of}
use Rattle.desk_model.specs.Effect.{with_kept}

-- the market of these parts
abbrev pub market_of : ℤ → List Slot → Market
market_of today slots = record { today = today; objects = slots }

-- whether notices are held back, with which objects each watcher is registered, and the watchers that were told
pub record Registry : Type 0 where
  pub deferring : Bool
  pub registrations : List (ℕ × ℕ)
  pub noticed : List ℕ

-- the state of these parts
abbrev pub state_of : ℤ → List Slot → List Kept → Registry → State
state_of today slots kept registry = record {
  market = market_of today slots;
  kept = kept;
  deferring = registry.deferring;
  registrations = registry.registrations;
  noticed = registry.noticed;
}

-- the state in which an object is not current
abbrev pub outdated : ℕ → State → State
outdated x state = with_kept x (record (kept_at state x) { current = false }) state

abbrev pub is_now : List Kept → ℕ → Bool
is_now kept x = (slice_index_or kept x unpriced).current

-- whether x answers its last value where another object needs it: it is current or frozen
unfoldable pub is_at_hand : List Kept → ℕ → Bool
is_at_hand kept x = (slice_index_or kept x unpriced).current || (slice_index_or kept x unpriced).frozen

abbrev pub answer_of : List Kept → ℕ → Outcome
answer_of kept x = last_of x (slice_index_or kept x unpriced).last

-- an answer that is borrowed
abbrev pub answered : Option (Result (Bor Value) Cause) → Option Outcome
answered None = None
answered (Some outcome) = Some (outcome_in outcome)

abbrev pub answered_of : Bool → Outcome → Option Outcome
answered_of current answer = if current then Some answer else None

-- whether a quote with this value stands in a slot
abbrev pub is_value : Option ℤ → Changeable → Bool
is_value value (HasValue held) = option_eq int_eq held value
is_value value (HasTarget kind held) = false
is_value value (HasFixings terms fixings) = false
is_value value (HasParts parts) = false
is_value value (HasEngine flows held) = false
is_value value HasNone = false

abbrev pub holds_value : Option ℤ → Slot → Bool
holds_value value slot.Free = false
holds_value value slot.Today = false
holds_value value slot.Watcher = false
holds_value value (slot.Live terms) = is_value value (changeable (Some terms))

-- the engine of an instrument, and whether rates are stored of an object
abbrev pub engine_in : Changeable → Option ℕ
engine_in (HasValue held) = None
engine_in (HasTarget kind held) = None
engine_in (HasFixings terms fixings) = None
engine_in (HasParts parts) = None
engine_in (HasEngine flows held) = held
engine_in HasNone = None

abbrev pub has_fixings : Changeable → Bool
has_fixings (HasValue held) = false
has_fixings (HasTarget kind held) = false
has_fixings (HasFixings terms fixings) = true
has_fixings (HasParts parts) = false
has_fixings (HasEngine flows held) = false
has_fixings HasNone = false

-- whether these are the terms of a handle
abbrev pub is_handle : Option Terms → Bool
is_handle None = false
is_handle (Some (Quote value)) = false
is_handle (Some (Derived minus first second)) = false
is_handle (Some (Handle kind target)) = true
is_handle (Some (Curve terms)) = false
is_handle (Some (Implied curve reference)) = false
is_handle (Some (Index terms fixings)) = false
is_handle (Some (Engine curve)) = false
is_handle (Some (Stock quote)) = false
is_handle (Some (Composite parts)) = false
is_handle (Some (Flows flows engine)) = false
