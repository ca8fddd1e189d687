-- Asks behind others that were answered.
use Rattle.std.proofs.Common.{ℕ, Result, Ok, Err}
use Rattle.std.specs.Prelude.{OnOk}
use Rattle.desk_model.specs.State.{State}
use Rattle.bump_model.specs.Asking.{Asking, Asks, then_ask}
use Rattle.bump_model.proofs.Calls.{Log, Did}
use Rattle.bump_ladder.proofs.Siding.{then_ok, then_front}

-- what follows where a call succeeded
pub on_ok : {A E : Type 0} (result : Result A E) (P Q : Type 0) → (P → Q) → OnOk result P → OnOk result Q
on_ok (Ok x) P Q f p = f p
on_ok (Err e) P Q f p = tt

module _ (a : Asking) (others : State → Asking) (t : State) (count now : ℕ) (log log_now : Log) (did : Did a t count now log log_now) where
  pub asks_behind : {A E : Type 0} (result : Result A E) (u : State) (end : ℕ) (log_end : Log)
      → Asks (others t) result u now end log_now log_end → Asks (then_ask a others) result u count end log log_end
  asks_behind (Ok x) u end log_end more = then_ok a others t u count now end log log_now log_end did more
  asks_behind (Err e) u end log_end more = then_front a others t u count now end log log_now log_end did more
