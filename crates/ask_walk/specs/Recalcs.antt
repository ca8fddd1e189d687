-- What one recalculation does.
use Rattle.std.specs.Prelude.{◌≡◌, ◌≢◌, ◌⊎◌, ◌++◌, ◌+◌, ℕ, Bool, List, [], length, Option, Some, None, Ok, Err, slice_index_or, slice_set, false, if◌then◌else◌}
use Rattle.desk_terms.specs.declared.value.Value.{Value}
use Rattle.desk_terms.specs.declared.cause.Cause.{Cause}
use Rattle.desk_terms.specs.declared.asked.Asked.{Asked}
use Rattle.desk_terms.specs.declared.asked.Mark.TheVariants.{Recalc}
use Rattle.desk_terms.specs.Reading.{Outcome, Calc}
use Rattle.desk_terms.specs.Asked.{Shows}
use Rattle.desk_terms.specs.Bench.{counted, logged}
use Rattle.desk_model.specs.declared.kept.Kept.{Kept}
use Rattle.desk_model.specs.State.{State, kept_at, unpriced, least_source, now}
use Rattle.desk_model.specs.Visit.{log_of, with_value, stored}
use Rattle.desk_model.specs.Recalc.{inputs_walk, reruns, recalced}
use Rattle.object_store.specs.Store.{StoreView, stored_at, stored_as}
use Rattle.ask_walk.specs.declared.recalced.Recalced.{Recalced}
use Rattle.ask_walk.specs.declared.recalced.Recalced.TheVariants.{Deferred, Done}

-- a recalculation that was done: it shows the price over what is seen of its inputs, makes exactly its calls of the bench,
-- and leaves its state
pub record Recalcs (calc : Calc) (o : ℕ) (old new : State) (answer : Asked) (count_old count_new : ℕ) (log_old log_new : Option (List (ℕ × Bool))) : Type 0 where
  pub state : new ≡ recalced calc o old
  pub shown : Shows answer.cause (kept_at new o).last (now calc old o)
  pub mark : answer.mark ≡ Recalc
  pub number : answer.runs ≡ length (reruns calc old o)
  pub count : count_new ≡ counted count_old (length (reruns calc old o))
  pub log : log_new ≡ logged log_old (log_of (reruns calc old o))

-- it is refused exactly where the object is late, with the least source, and nothing is changed then
abbrev pub RecalcEnds : Calc → ℕ → State → State → Recalced → ℕ → ℕ → Option (List (ℕ × Bool)) → Option (List (ℕ × Bool)) → Type 0
RecalcEnds calc o old new (Deferred source) count_old count_new log_old log_new = (least_source old o ≡ Some source) × (new ≡ old) × (count_new ≡ count_old) × (log_new ≡ log_old)
RecalcEnds calc o old new (Done answer) count_old count_new log_old log_new = (least_source old o ≡ None) × Recalcs calc o old new answer count_old count_new log_old log_new

-- A recalculation for which memory ran out: a front of its calls was made, and what they computed stays. The flags and
-- the last value of the object itself are as before, and nobody was told.
pub record RecalcStops (calc : Calc) (o : ℕ) (old new : State) (count_old count_new : ℕ) (log_old log_new : Option (List (ℕ × Bool))) : Type 0 where
  pub early : least_source old o ≡ None
  pub front : List (ℕ × Outcome)
  pub rest : List (ℕ × Outcome)
  pub whole : reruns calc old o ≡ front ++ rest
  pub state : new ≡ stored old front
  pub own : kept_at new o ≡ kept_at old o
  pub count : (count_new ≡ counted count_old (length front)) ⊎ ((rest ≢ []) × (count_new ≡ counted count_old (length front + 1)))
  pub log : log_new ≡ logged log_old (log_of front)

-- what the inputs' calls leave of each object
abbrev pub with_inputs : Calc → State → ℕ → List Kept
with_inputs calc old o = (stored old (inputs_walk calc old o).calls).kept

-- an object that was computed over its inputs has its value, or is as it was
abbrev pub IsRepriced : Calc → ℕ → State → List Kept → Option Cause → Type 0
IsRepriced calc o old kept None = (value : Value) × (now calc old o ≡ Ok value)
    × (kept ≡ slice_set (with_inputs calc old o) o (with_value (slice_index_or (with_inputs calc old o) o unpriced) (Some value)))
IsRepriced calc o old kept (Some cause) = (now calc old o ≡ Err cause) × (kept ≡ with_inputs calc old o)

-- a recalculation but for the notice: the calls were made, and nobody was told
pub record Reprices (calc : Calc) (o : ℕ) (old : State) (kept : List Kept) (answer : Asked) (count_old count_new : ℕ) (log_old log_new : Option (List (ℕ × Bool))) : Type 0 where
  pub price : IsRepriced calc o old kept answer.cause
  pub mark : answer.mark ≡ Recalc
  pub number : answer.runs ≡ length (reruns calc old o)
  pub count : count_new ≡ counted count_old (length (reruns calc old o))
  pub log : log_new ≡ logged log_old (log_of (reruns calc old o))

-- what is stored where an object that was refused is not current
abbrev pub refused_as : ℕ → Bool → StoreView → StoreView
refused_as x refused store = if refused then stored_as x (record (stored_at store x) { current = false }) store else store
