-- What a bench was called for: nothing yet.
use Rattle.std.proofs.Common.{◌≡◌, ℕ, Bool, List, [], Option, Some, None, refl, sym, ap, arith}
use Rattle.std.proofs.lemmas.List.{append-nil}
use Rattle.desk_terms.specs.Bench.{logged}
use Rattle.tool_frame.specs.Calls.{Makes, Begins}

pub logged_none : (log : Option (List (ℕ × Bool))) → log ≡ logged log []
logged_none None = refl
logged_none (Some log) = ap Some (sym (append-nil log))

-- nothing was called for yet
pub begins_none : (calls : List (ℕ × Bool)) (count : ℕ) (log : Option (List (ℕ × Bool))) → Begins calls count count log log
begins_none calls count log = record {
  begun = 0;
  ended = 0;
  most = omega arith;
  last = (omega arith, omega arith);
  count = refl;
  log = logged_none log;
}

pub makes_none : (count : ℕ) (log : Option (List (ℕ × Bool))) → Makes [] count count log log
makes_none count log = record { count = refl; log = logged_none log }
