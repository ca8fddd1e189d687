-- When stored values may be answered: a sound state.
use Rattle.std.specs.Prelude.{◌≡◌, ℕ, suc, Bool, true, false, ◌||◌, ◌⊎◌, length, Some, Ok}
use Rattle.walks.specs.Walk.{below_by, Among}
use Rattle.desk_terms.specs.declared.value.Value.{Value}
use Rattle.desk_terms.specs.Reading.{Calc}
use Rattle.desk_model.specs.Market.{edges, is_forwarder}
use Rattle.desk_model.specs.Uses.{needs}
use Rattle.desk_model.specs.Fresh.{priced_by, reading_by}
use Rattle.desk_model.specs.State.{State, kept_at, last_answer, is_frozen, is_source}

-- whether a deferred source is near o: below it, on a path of forwarders
unfoldable pub has_source : State → ℕ → Bool
has_source state o =
    below_by (edges state.market) (is_source state) (is_forwarder state.market) (suc (length state.market.objects)) o

-- an object whose last value another price may rest on
abbrev pub is_ready : State → ℕ → Bool
is_ready state x = is_frozen state x || (kept_at state x).current

-- the last value of o is its price over the last values of the objects that it needs, and these are ready
pub record IsPriced (calc : Calc) (state : State) (o : ℕ) : Type 0 where
  pub value : Value
  pub last : (kept_at state o).last ≡ Some value
  pub price : priced_by calc state.market (last_answer state) o ≡ Ok value
  pub ready : (x : ℕ) → Among x (needs state.market o) → is_ready state x ≡ true

abbrev pub IsSoundAt : Calc → State → ℕ → Type 0
IsSoundAt calc state o = (has_source state o ≡ true) ⊎ IsPriced calc state o

abbrev pub AreSound : Calc → State → Type 0
AreSound calc state = (o : ℕ) → (kept_at state o).current ≡ true → IsSoundAt calc state o

-- where deferral is off, there is no deferred source
abbrev pub HasNoSourceWhereOff : State → Type 0
HasNoSourceWhereOff state = state.deferring ≡ false → (x : ℕ) → is_source state x ≡ false

-- SOUND for a bench: without deferral there is no source, and each current object has a source near it or is priced
pub record IsSound (calc : Calc) (state : State) : Type 0 where
  pub sources : HasNoSourceWhereOff state
  pub current : AreSound calc state

-- An object with no source near it was current with no source near before, and its reading over its entries, its last
-- value, and that the objects that it needs are ready, are as they were. No way to price occurs here.
pub record IsAsBefore (old new : State) (o : ℕ) : Type 0 where
  pub current : (kept_at old o).current ≡ true
  pub source : has_source old o ≡ false
  pub reading : reading_by new.market (last_answer new) o ≡ reading_by old.market (last_answer old) o
  pub last : (kept_at new o).last ≡ (kept_at old o).last
  pub ready : ((x : ℕ) → Among x (needs old.market o) → is_ready old x ≡ true) → (x : ℕ) → Among x (needs new.market o)
      → is_ready new x ≡ true

-- WHAT A CHANGE KEEPS, over data alone: each object that is current after it with no source near it is as before
pub record KeepsCurrent (old new : State) : Type 0 where
  pub sources : HasNoSourceWhereOff old → HasNoSourceWhereOff new
  pub each : (o : ℕ) → (kept_at new o).current ≡ true → has_source new o ≡ false → IsAsBefore old new o
