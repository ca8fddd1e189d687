-- Which computations an ask makes, and the state after it: what an ask computes is what it uses and has no current
-- value (QuantLib's `LazyObject::calculate`).
use Rattle.std.specs.Prelude.{ℕ, zero, suc, Bool, true, ◌||◌, ◌==◌, if◌then◌else◌, List, [], ◌∷◌, ◌++◌, length, Option, Some, None, Ok, Err, is_ok, is_some}
use Rattle.desk_terms.specs.declared.value.Value.{Value}
use Rattle.desk_terms.specs.declared.cause.Cause.{Cause}
use Rattle.desk_terms.specs.Reading.{Outcome, Calc}
use Rattle.desk_model.specs.declared.entry.Entry.{Entry}
use Rattle.desk_model.specs.declared.entry.Entry.TheVariants.{Gives, Needs, Refuses}
use Rattle.desk_model.specs.declared.kept.Kept.{Kept}
use Rattle.desk_model.specs.Uses.{uses}
use Rattle.desk_model.specs.State.{State, kept_at, held_outcome, seen_outcome, now, each_kept}

-- the calls of the bench so far, in order, each object with what the bench answered, as a bench tells them: each object
-- with whether it got a value
abbrev pub log_of : List (ℕ × Outcome) → List (ℕ × Bool)
log_of [] = []
log_of (call ∷ calls) = (call.0, is_ok call.1) ∷ log_of calls

abbrev pub value_in : Outcome → Option Value
value_in (Ok value) = Some value
value_in (Err cause) = None

abbrev pub or_value : Option Value → Option Value → Option Value
or_value (Some value) later = Some value
or_value None later = later

-- the value that x got among these calls
abbrev pub value_among : List (ℕ × Outcome) → ℕ → Option Value
value_among [] x = None
value_among (call ∷ calls) x = or_value (if call.0 == x then value_in call.1 else None) (value_among calls x)

abbrev pub has_value : List (ℕ × Outcome) → ℕ → Bool
has_value calls x = is_some (value_among calls x)

-- a visit of an object: the calls so far, and how the visit ended
pub record Visit : Type 0 where
  pub calls : List (ℕ × Outcome)
  pub outcome : Outcome

-- the same of the entries that a price takes; a refusal ends it
pub record Walk : Type 0 where
  pub calls : List (ℕ × Outcome)
  pub refusal : Option Cause

-- the walk after a visit of a needed object: where that refused, it ends there
abbrev pub after_visit : List (ℕ × Outcome) → Outcome → (List (ℕ × Outcome) → Walk) → Walk
after_visit calls (Ok value) rest = rest calls
after_visit calls (Err cause) rest = record { calls = calls; refusal = Some cause }

-- the entries in order: a value at hand computes nothing, a needed object is visited
abbrev pub settle_all : (List (ℕ × Outcome) → ℕ → Visit) → List (ℕ × Outcome) → List Entry → Walk
settle_all visit calls [] = record { calls = calls; refusal = None }
settle_all visit calls (Gives rate ∷ entries) = settle_all visit calls entries
settle_all visit calls (Needs x ∷ entries) =
    after_visit (visit calls x).calls (visit calls x).outcome (λ later. settle_all visit later entries)
settle_all visit calls (Refuses cause ∷ entries) = record { calls = calls; refusal = Some cause }

-- o is computed last, where nothing that it uses refused
abbrev pub settle : Outcome → ℕ → List (ℕ × Outcome) → Option Cause → Visit
settle price o calls (Some cause) = record { calls = calls; outcome = Err cause }
settle price o calls None = record { calls = calls ++ (o, price) ∷ []; outcome = price }

abbrev pub settle_walk : Outcome → ℕ → Walk → Visit
settle_walk price o walk = settle price o walk.calls walk.refusal

-- nothing is computed of an object that is held or current, or that got a value in this ask
abbrev pub is_idle : State → List (ℕ × Outcome) → ℕ → Bool
is_idle state calls o = is_some (held_outcome state o) || ((kept_at state o).current || has_value calls o)

-- a visit of o after these calls, over paths of at most n edges
unfoldable pub visit_by : Calc → State → ℕ → List (ℕ × Outcome) → ℕ → Visit
visit_by calc state zero calls o = record { calls = calls; outcome = seen_outcome calc state o }
visit_by calc state (suc n) calls o =
    if is_idle state calls o
    then record { calls = calls; outcome = seen_outcome calc state o }
    else settle_walk (now calc state o) o (settle_all (visit_by calc state n) calls (uses state.market o))

-- THE RUNS of an ask of o: the calls of the bench that it makes, in order
unfoldable pub runs : Calc → State → ℕ → List (ℕ × Outcome)
runs calc state o = (visit_by calc state (suc (length state.market.objects)) [] o).calls

-- an object that got a value is current with it
abbrev pub with_value : Kept → Option Value → Kept
with_value kept (Some value) = record kept { current = true; last = Some value }
with_value kept None = kept

-- the state that these calls leave: each object that got a value has it, a refused one stays as it was
unfoldable pub stored : State → List (ℕ × Outcome) → State
stored state calls = record state { kept = each_kept (λ o kept. with_value kept (value_among calls o)) 0 state.kept }

-- the state after an ask of o
unfoldable pub asked : Calc → ℕ → State → State
asked calc o state = stored state (runs calc state o)
