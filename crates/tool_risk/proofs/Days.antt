-- The asks for a theta.
use Rattle.std.proofs.Common.{◌≡◌, ℕ, ℤ, List, Option, Result, Ok, Err, sym, ◌∙◌, ap}
use Rattle.desk_terms.specs.Reading.{Calc}
use Rattle.desk_model.specs.Effect.{today_set}
use Rattle.desk_model.specs.State.{State}
use Rattle.bump_model.specs.Asking.{Asks}
use Rattle.bump_model.proofs.Calls.{Log}
use Rattle.tool_risk.specs.Theta.{later_asking, day_asking, asking_on, theta_asking}
use Rattle.tool_risk.specs.Tomorrow.{tomorrow_of}

module _ (calc : Calc) (size : ℤ) (o : ℕ) where
  -- today is set back behind the asks of a later day
  pub day_asks : {A E : Type 0} (result : Result A E) (names : List ℕ) (day : ℤ) (s u v : State) (count now : ℕ) (log log_now : Log)
      → v ≡ today_set s.market.today u → Asks (later_asking calc size o names (today_set day s)) result u count now log log_now
      → Asks (day_asking calc size o names day s) result v count now log log_now
  unfolding day_asking
  day_asks (Ok x) names day s u v count now log log_now is did = (is ∙ ap (today_set s.market.today) did.0, did.1)
  day_asks (Err e) names day s u v count now log log_now is front = front

  pub asking_tomorrow : (s : State) (found : Option ℤ) → found ≡ tomorrow_of s.market o → theta_asking calc size o s ≡ asking_on calc size o found s
  unfolding theta_asking
  asking_tomorrow s found is = ap (λ (day : Option ℤ). asking_on calc size o day s) (sym is)
