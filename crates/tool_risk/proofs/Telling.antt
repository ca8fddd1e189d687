-- Another evaluation date.
use Rattle.std.proofs.Common.{◌≡◌, Bool, true, false, ℤ, refl, ap, ◌∙◌}
use Rattle.std.specs.Ordering.{int_eq}
use Rattle.std.specs.Prelude.{if◌then◌else◌}
use Rattle.std.proofs.lemmas.Bool.Decides.{Decides-int_eq}
use Rattle.desk_model.specs.Effect.{notified_as, notified, with_today, today_set}
use Rattle.desk_model.specs.Market.{Market}
use Rattle.desk_model.specs.State.{State}
use Rattle.desk_model.specs.Told.{tell}

module _ (s : State) (day : ℤ) where
  told : (b : Bool) (u : State) → (notified_as b 0 u).market ≡ u.market
  unfolding tell
  told true u = refl
  told false u = refl

  moved : (b : Bool) → int_eq s.market.today day ≡ b
      → (if b then s else notified 0 (with_today day s)).market ≡ record s.market { today = day }
  unfolding notified
  moved true is = ap (λ (d : ℤ). record s.market { today = d }) ((Decides-int_eq s.market.today day).0 is)
  moved false is = told s.deferring (with_today day s)

  pub today_market : (today_set day s).market ≡ record s.market { today = day }
  unfolding today_set
  today_market = moved (int_eq s.market.today day) refl

-- moved, and set back
pub set_back : (s t : State) (day : ℤ) → t.market ≡ (today_set day s).market → (today_set s.market.today t).market ≡ s.market
set_back s t day is = today_market t s.market.today ∙ ap (λ (m : Market). record m { today = s.market.today }) (is ∙ today_market s day)
