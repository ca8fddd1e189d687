-- What a bench was called for: go on, break off.
use Rattle.std.proofs.Common.{◌≡◌, ℕ, ◌+◌, Bool, List, [], ◌++◌, length, take, Option, Result, Ok, Err, refl, sym, ◌∙◌, ap, arith}
use Rattle.std.proofs.Math.Seq.{take-append-add}
use Rattle.std.proofs.lemmas.List.{length-append, take_all, take-append-le}
use Rattle.desk_terms.specs.Bench.{counted, logged}
use Rattle.session_rounds.proofs.Going.{counted_more, logged_more}
use Rattle.tool_frame.specs.Calls.{Makes, Begins, Calls}

abbrev Log : Type 0
Log = Option (List (ℕ × Bool))

-- all of it was made
pub makes_begins : (calls : List (ℕ × Bool)) (count now : ℕ) (log log_now : Log) → Makes calls count now log log_now
    → Begins calls count now log log_now
makes_begins calls count now log log_now makes = record {
  begun = length calls;
  ended = length calls;
  most = omega arith;
  last = (omega arith, omega arith);
  count = makes.count;
  log = makes.log ∙ ap (logged log) (sym (take_whole calls));
}
  where
    take_whole : (calls : List (ℕ × Bool)) → take (length calls) calls ≡ calls
    take_whole calls = take_all (length calls) calls (omega arith)

-- some, and then more
pub makes_both : (calls more : List (ℕ × Bool)) (count mid now : ℕ) (log log_mid log_now : Log) → Makes calls count mid log log_mid
    → Makes more mid now log_mid log_now → Makes (calls ++ more) count now log log_now
makes_both calls more count mid now log log_mid log_now first second = record {
  count = second.count ∙ ap (λ (n : ℕ). counted n (length more)) first.count
      ∙ counted_more count (length calls) (length more) ∙ ap (counted count) (sym (length-append calls more));
  log = second.log ∙ ap (λ (l : Log). logged l more) first.log ∙ logged_more log calls more;
}

pub begins_first : (calls more : List (ℕ × Bool)) (count now : ℕ) (log log_now : Log) → Begins calls count now log log_now
    → Begins (calls ++ more) count now log log_now
begins_first calls more count now log log_now b = record {
  begun = b.begun;
  ended = b.ended;
  most = omega (arith, b.most, length-append calls more);
  last = b.last;
  count = b.count;
  log = b.log ∙ ap (logged log) (sym (take-append-le b.ended calls more (omega (arith, b.most, b.last.0))));
}

pub begins_second : (calls more : List (ℕ × Bool)) (count mid now : ℕ) (log log_mid log_now : Log)
    → Makes calls count mid log log_mid → Begins more mid now log_mid log_now → Begins (calls ++ more) count now log log_now
begins_second calls more count mid now log log_mid log_now first b = record {
  begun = length calls + b.begun;
  ended = length calls + b.ended;
  most = omega (arith, b.most, length-append calls more);
  last = (omega (arith, b.last.0), omega (arith, b.last.1));
  count = b.count ∙ ap (λ (n : ℕ). counted n b.begun) first.count ∙ counted_more count (length calls) b.begun;
  log = b.log ∙ ap (λ (l : Log). logged l (take b.ended more)) first.log ∙ logged_more log calls (take b.ended more)
      ∙ ap (logged log) (sym (take-append-add calls more b.ended));
}

-- all of it was made, however it ended then
pub calls_any : {A E : Type 0} (calls : List (ℕ × Bool)) (result : Result A E) (count now : ℕ) (log log_now : Log)
    → Makes calls count now log log_now → Calls calls result count now log log_now
calls_any calls (Ok x) count now log log_now makes = makes
calls_any calls (Err e) count now log log_now makes = makes_begins calls count now log log_now makes
