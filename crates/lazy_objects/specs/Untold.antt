-- That nobody is told.
use Rattle.std.specs.Prelude.{◌≡◌, ℕ, true}
use Rattle.desk_model.specs.State.{State, kept_at, is_frozen, is_source}

-- what is current stays so; no object holds a notice back that did not, or is frozen or thawed; and no watcher is noted
pub record TellsNobody (old new : State) : Type 0 where
  pub current : (x : ℕ) → (kept_at old x).current ≡ true → (kept_at new x).current ≡ true
  pub sources : (x : ℕ) → is_source new x ≡ is_source old x
  pub frozen : (x : ℕ) → is_frozen new x ≡ is_frozen old x
  pub noticed : new.noticed ≡ old.noticed
