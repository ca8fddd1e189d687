-- Asks for each of several, in order: how far they have come.
use Rattle.std.proofs.Common.{◌≡◌, ℕ, List, [], ◌∷◌, length, refl, sym, ap, subst}
use Rattle.desk_terms.specs.Reading.{Calc}
use Rattle.desk_model.specs.State.{State}
use Rattle.bump_model.specs.Asking.{Asking, MadeFront, none, then_ask, each_asking}
use Rattle.bump_model.proofs.Calls.{Log, Did, Progress, progress_none, progress_more, progress_front, progress_stops, last_next, last_made}

module _ {A : Type 0} (ask : Calc → A → State → Asking) (calc : Calc) (whole : List A) (start : State) where
  abbrev each : List A → State → Asking
  each items s = each_asking (ask calc) items s

  -- those before `rest` were made, and the state is s
  abbrev pub Far : List A → State → ℕ → ℕ → Log → Log → Type 0
  Far rest s count now log log_now = (n : ℕ) × Progress (each whole start) (each rest s) n count now log log_now

  pub far_none : (count : ℕ) (log : Log) → Far whole start count count log log
  far_none count log = (0, progress_none (each whole start) count log)

  -- none is left
  pub far_ended : (all : List A) (s : State) (count now : ℕ) (log log_now : Log) → all ≡ []
      → Far all s count now log log_now → Did (each whole start) s count now log log_now
  unfolding each_asking
  far_ended all s count now log log_now is far =
      let ended : each all s ≡ none s = ap (λ (l : List A). each l s) is in (
        sym (last_next (each whole start) (each all s) s ended far.0 count now log log_now far.1),
        last_made (each whole start) (each all s) s ended far.0 count now log log_now far.1,
      )

  -- the next one, by a bench whose calculations are the same
  module _ (k : Calc) (same : k ≡ calc) (all rest : List A) (x : A) (steps : all ≡ x ∷ rest) (s : State)
      (count now then : ℕ) (log log_now log_end : Log) (far : Far all s count now log log_now) where
    step : each all s ≡ then_ask (ask calc x s) (each rest)
    unfolding each_asking
    step = ap (λ (l : List A). each l s) steps

    pub far_more : (t : State) → Did (ask k x s) t now then log_now log_end → Far rest t count then log log_end
    far_more t does =
        let did = subst (λ (h : Calc). Did (ask h x s) t now then log_now log_end) same does in (
          _,
          progress_more (each whole start) (each all s) (ask calc x s) (each rest) step far.0 count now then
              log log_now log_end far.1 t did.0 did.1 (length (ask calc x s).calls) refl,
        )

    pub far_stops : (t : State) → Did (ask k x s) t now then log_now log_end
        → MadeFront (each whole start).calls count then log log_end
    far_stops t does =
        let more = far_more t does in
        progress_stops (each whole start) (each rest t) more.0 count then log log_end more.1

    pub far_front : MadeFront (ask k x s).calls now then log_now log_end
        → MadeFront (each whole start).calls count then log log_end
    far_front made =
        progress_front (each whole start) (each all s) (ask calc x s) (each rest) step far.0 count now then
        log log_now log_end far.1 (subst (λ (h : Calc). MadeFront (ask h x s).calls now then log_now log_end) same made)
