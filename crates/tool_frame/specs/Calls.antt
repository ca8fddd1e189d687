-- What a bench was called for.
use Rattle.std.specs.Prelude.{◌≡◌, ◌≤◌, ◌+◌, ℕ, Bool, List, length, take, Option, Result, Ok, Err}
use Rattle.desk_terms.specs.Bench.{counted, logged}

-- for all of these computations, in their order, and for no other
pub record Makes (calls : List (ℕ × Bool)) (count_old count_new : ℕ) (log_old log_new : Option (List (ℕ × Bool))) : Type 0 where
  pub count : count_new ≡ counted count_old (length calls)
  pub log : log_new ≡ logged log_old calls

-- MEMORY RAN OUT: for a front of them, all of which ended but the last one at most
pub record Begins (calls : List (ℕ × Bool)) (count_old count_new : ℕ) (log_old log_new : Option (List (ℕ × Bool))) : Type 0 where
  pub begun : ℕ
  pub ended : ℕ
  pub most : begun ≤ length calls
  pub last : (ended ≤ begun) × (begun ≤ ended + 1)
  pub count : count_new ≡ counted count_old begun
  pub log : log_new ≡ logged log_old (take ended calls)

-- the one or the other, by how it ended
abbrev pub Calls : {A E : Type 0} → List (ℕ × Bool) → Result A E → ℕ → ℕ → Option (List (ℕ × Bool)) → Option (List (ℕ × Bool)) → Type 0
Calls calls (Ok x) count_old count_new log_old log_new = Makes calls count_old count_new log_old log_new
Calls calls (Err e) count_old count_new log_old log_new = Begins calls count_old count_new log_old log_new
