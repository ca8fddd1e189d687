-- Pricing an object on demand, whatever its flags say (QuantLib's `LazyObject::recalculate`).
use Rattle.std.specs.Prelude.{ℕ, true, false, List, [], length, Some, Ok, Err}
use Rattle.desk_terms.specs.Reading.{Outcome, Calc}
use Rattle.desk_model.specs.declared.kept.Kept.{Kept}
use Rattle.desk_model.specs.Uses.{uses}
use Rattle.desk_model.specs.State.{State, kept_at, now}
use Rattle.desk_model.specs.Visit.{Walk, settle_all, settle_walk, visit_by, stored}
use Rattle.desk_model.specs.Effect.{with_kept, notified}

-- the calls for its inputs
unfoldable pub inputs_walk : Calc → State → ℕ → Walk
inputs_walk calc state o = settle_all (visit_by calc state (length state.market.objects)) [] (uses state.market o)

-- THE RERUNS: these, and then its own, where no input refused
unfoldable pub reruns : Calc → State → ℕ → List (ℕ × Outcome)
reruns calc state o = (settle_walk (now calc state o) o (inputs_walk calc state o)).calls

-- what is stored of it then: a refusal leaves its last value, which is not current
abbrev pub recalced_kept : Kept → Outcome → Kept
recalced_kept kept (Ok value) = record kept { current = true; last = Some value }
recalced_kept kept (Err cause) = record kept { current = false }

abbrev pub recalced_bare : Calc → ℕ → State → State → State
recalced_bare calc o state inputs = with_kept o (recalced_kept (kept_at inputs o) (now calc state o)) inputs

-- the inputs are stored, then the object, and its observers are told
unfoldable pub recalced : Calc → ℕ → State → State
recalced calc o state = notified o (recalced_bare calc o state (stored state (inputs_walk calc state o).calls))
