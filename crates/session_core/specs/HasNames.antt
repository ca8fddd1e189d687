-- What a session keeps of its names beside its objects.
use Rattle.std.specs.Prelude.{◌≡◌, ◌≤◌, ℕ, true, length, List, Option, Some, None, slice_index_or}
use Rattle.desk_model.specs.declared.slot.Slot.TheVariants.{Today}
use Rattle.desk_model.specs.Market.{Market, slot_at, is_given, live_count}
use Rattle.session_model.specs.Standing.{Standing}

-- o is live and has this name
abbrev pub IsNamed : Market → List ℕ → ℕ → ℕ → Type 0
IsNamed market of_object name o = (is_given (slot_at market o) ≡ true) × (slice_index_or of_object o 0 ≡ name)

-- The table by names has exactly the live objects, each at its name. Each object has a name, and the number of live
-- objects is at hand, at most 4,096. Object 0 is `today`. Each name has a place for its watcher's action.
pub record HasNames (p : Standing) (of_name : List (Option ℕ)) (live : ℕ) : Type 0 where
  pub table : length of_name ≡ length p.names
  pub watching : length p.watching ≡ length p.names
  pub objects : length p.of_object ≡ length p.state.market.objects
  pub today : slot_at p.state.market 0 ≡ Today
  pub living : live ≡ live_count p.state.market
  pub few : live ≤ 4096
  pub there : (name o : ℕ) → slice_index_or of_name name None ≡ Some o → IsNamed p.state.market p.of_object name o
  pub all : (name o : ℕ) → IsNamed p.state.market p.of_object name o → slice_index_or of_name name None ≡ Some o
