-- What a bench was called for while an answer was made, as the calls of a run tell it.
use Rattle.std.proofs.Common.{◌≡◌, ◌≢◌, inl, inr, ℕ, ◌+◌, ◌≤◌, Bool, List, [], ◌∷◌, ◌++◌, length, take, Option, refl, sym, ◌∙◌, ap, arith}
use Rattle.std.proofs.lemmas.List.{length-append}
use Rattle.desk_terms.specs.Bench.{counted, logged}
use Rattle.desk_terms.specs.Reading.{Outcome}
use Rattle.desk_model.specs.Visit.{log_of}
use Rattle.bump_model.specs.Asking.{Made, MadeFront}
use Rattle.session_core.proofs.Turns.{log_length}
use Rattle.tool_frame.specs.Calls.{Makes, Begins}

abbrev Log : Type 0
Log = Option (List (ℕ × Bool))

-- all of it was made
pub makes_made : (calls : List (ℕ × Outcome)) (count now : ℕ) (log log_now : Log) → Made calls count now log log_now
    → Makes (log_of calls) count now log log_now
makes_made calls count now log log_now made =
    record { count = made.count ∙ ap (counted count) (sym (log_length calls)); log = made.log }

take_front : (front rest : List (ℕ × Outcome)) → take (length front) (log_of (front ++ rest)) ≡ log_of front
take_front [] rest = refl
take_front (call ∷ front) rest = ap (λ (log : List (ℕ × Bool)). log_of (call ∷ []) ++ log) (take_front front rest)

some_rest : (rest : List (ℕ × Outcome)) → rest ≢ [] → 1 ≤ length rest
some_rest [] some = absurd (some refl)
some_rest (call ∷ rest) some = omega arith

-- a front of it was made, and one more begun or not
pub begins_front : (calls : List (ℕ × Outcome)) (count now : ℕ) (log log_now : Log) → MadeFront calls count now log log_now
    → Begins (log_of calls) count now log log_now
begins_front calls count now log log_now m = elim m.count [
  | inl is ↦ record {
    begun = length m.front;
    ended = length m.front;
    most = omega (arith, long);
    last = (omega arith, omega arith);
    count = is;
    log = front_log;
  }
  | inr more ↦ record {
    begun = length m.front + 1;
    ended = length m.front;
    most = omega (arith, long, some_rest m.rest more.0);
    last = (omega arith, omega arith);
    count = more.1;
    log = front_log;
  }
]
  where
    long : length (log_of calls) ≡ length m.front + length m.rest
    long = log_length calls ∙ ap length m.whole ∙ length-append m.front m.rest

    front_log : log_now ≡ logged log (take (length m.front) (log_of calls))
    front_log =
        m.log ∙ ap (logged log) (sym (ap (λ (l : List (ℕ × Outcome)). take (length m.front) (log_of l)) m.whole
        ∙ take_front m.front m.rest))
