-- What a change of objects tells, and the state after it (QuantLib's `Observable::notifyObservers`).
use Rattle.std.specs.Prelude.{ℕ, suc, Bool, true, false, if◌then◌else◌, ◌==◌, ◌+◌, List, [], ◌∷◌, ◌++◌, length, not, ◌&&◌, ◌||◌}
use Rattle.std.specs.List.{list_any}
use Rattle.walks.specs.Walk.{below_by}
use Rattle.desk_terms.specs.Kind.{Role}
use Rattle.desk_terms.specs.Kind.Role.{Source, Forwarder, Lazy, Watching}
use Rattle.desk_model.specs.declared.kept.Kept.{Kept}
use Rattle.desk_model.specs.declared.slot.Slot.{Slot}
use Rattle.desk_model.specs.Market.{terms_at, edges, role_of, is_watcher}
use Rattle.desk_model.specs.State.{State, kept_at, each_kept}

-- the objects with which a watcher is registered, by creation
abbrev pub registered : List (ℕ × ℕ) → ℕ → List ℕ
registered [] w = []
registered (pair ∷ pairs) w = if pair.0 == w then pair.1 ∷ registered pairs w else registered pairs w

-- whether a watcher is registered with an object, and with any
abbrev pub is_registered : State → ℕ → ℕ → Bool
is_registered state w o = list_any (λ x. x == o) (registered state.registrations w)

abbrev pub is_watching : State → ℕ → Bool
is_watching state w = list_any (λ x. true) (registered state.registrations w)

-- what o observes: its edges, or, of a watcher, the objects with which it is registered
abbrev pub subjects : State → ℕ → List ℕ
subjects state o = edges state.market o ++ registered state.registrations o

-- whether an object that is told passes the notice on: a lazy object does where it is not frozen, and its value was
-- current or it always does
abbrev pub forwards_as : Role → Kept → Bool
forwards_as Source kept = false
forwards_as Forwarder kept = true
forwards_as Lazy kept = not kept.frozen && (kept.current || kept.forward)
forwards_as Watching kept = false

unfoldable pub forwards : State → ℕ → Bool
forwards state x = forwards_as (role_of (terms_at state.market x)) (kept_at state x)

-- TOLD: a notice from these objects reaches o. It observes one of them, or an object that is told and passes it on.
unfoldable pub told : State → (ℕ → Bool) → ℕ → Bool
told state from o = below_by (subjects state) from (forwards state) (suc (length state.market.objects)) o

-- a told object is not current; what is stored of it stays
abbrev pub unsettled : Bool → Kept → Kept
unsettled is_told kept = if is_told then record kept { current = false } else kept

-- the watchers among these slots that pass, by creation
abbrev pub watchers_where : (ℕ → Bool) → ℕ → List Slot → List ℕ
watchers_where passes o [] = []
watchers_where passes o (slot ∷ slots) =
    if is_watcher slot && passes o
    then o ∷ watchers_where passes (o + 1) slots
    else watchers_where passes (o + 1) slots

-- the watchers that were told before and those that are told now
abbrev pub noticed_then : State → (ℕ → Bool) → List ℕ
noticed_then state from =
    watchers_where (λ o. list_any (λ w. w == o) state.noticed || told state from o) 0 state.market.objects

-- the state after a notice from these objects
unfoldable pub tell : (ℕ → Bool) → State → State
tell from state = record state {
  kept = each_kept (λ o kept. unsettled (told state from o) kept) 0 state.kept;
  noticed = noticed_then state from;
}
