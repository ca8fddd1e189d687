-- What is known of the watchers of a session.
use Rattle.std.specs.Prelude.{◌≡◌, ℕ, ◌<◌, true, length}
use Rattle.desk_model.specs.Market.{slot_at, is_watcher}
use Rattle.session_model.specs.Standing.{Standing, name_of}

-- a live watcher, which has a name of the session that no other live watcher has
pub record IsAWatcher (p : Standing) (w : ℕ) : Type 0 where
  pub live : is_watcher (slot_at p.state.market w) ≡ true
  pub listed : w < length p.of_object
  pub named : name_of p w < length p.names
  pub alone : (v : ℕ) → is_watcher (slot_at p.state.market v) ≡ true → name_of p v ≡ name_of p w → v ≡ w

abbrev pub AreWatchers : Standing → Type 0
AreWatchers p = (w : ℕ) → is_watcher (slot_at p.state.market w) ≡ true → IsAWatcher p w
