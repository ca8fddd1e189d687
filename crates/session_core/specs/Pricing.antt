-- What is done where an object is priced, whether it ends or memory runs out in it.
use Rattle.std.specs.Prelude.{◌≡◌, ◌+◌, ◌≤◌, ℕ, Bool, List, length, take, Option}
use Rattle.desk_terms.specs.declared.asked.Asked.{Asked}
use Rattle.desk_terms.specs.Asked.{Shows}
use Rattle.desk_terms.specs.Bench.{counted, logged}
use Rattle.desk_model.specs.State.{kept_at}
use Rattle.desk_model.specs.Visit.{log_of, stored}
use Rattle.session_model.specs.Standing.{Standing}
use Rattle.session_model.specs.Pricing.{Pricing}

-- o is priced so
pub record Prices (w : Pricing) (o : ℕ) (old new : Standing) (answer : Asked) (count_old count_new : ℕ)
    (log_old log_new : Option (List (ℕ × Bool))) : Type 0 where
  pub next : new ≡ record old { state = w.next }
  pub shown : Shows answer.cause (kept_at new.state o).last w.outcome
  pub mark : answer.mark ≡ w.mark
  pub number : answer.runs ≡ length w.calls
  pub count : count_new ≡ counted count_old (length w.calls)
  pub log : log_new ≡ logged log_old (log_of w.calls)

-- memory ran out in it: a front of its computations was begun, and all of these ended but the last one at most; of
-- those that ended the values stay that may
pub record StopsShort (w : Pricing) (old new : Standing) (count_old count_new : ℕ)
    (log_old log_new : Option (List (ℕ × Bool))) : Type 0 where
  pub begun : ℕ
  pub ended : ℕ
  pub most : begun ≤ length w.calls
  pub last : (ended ≤ begun) × (begun ≤ ended + 1)
  pub count : count_new ≡ counted count_old begun
  pub log : log_new ≡ logged log_old (take ended (log_of w.calls))
  pub next : new ≡ record old { state = stored old.state (take ended w.survivors) }
