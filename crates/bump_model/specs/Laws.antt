-- What is proved of these definitions, for every bench and every market.
use Rattle.std.specs.Prelude.{◌≡◌, ℕ, ℤ, List}
use Rattle.desk_terms.specs.Reading.{Calc}
use Rattle.desk_model.specs.State.{State}
use Rattle.desk_model.specs.Unheld.{HoldsNothing}
use Rattle.bump_model.specs.declared.moves.Quoted.{Quoted}
use Rattle.bump_model.specs.declared.ladder.Bump.{Bump}
use Rattle.bump_model.specs.Moves.{with_values, all_set, AreQuoted}
use Rattle.bump_model.specs.Asking.{rung_asking, ladder_asking}

-- THE MARKET AS BEFORE: quotes that were moved, whichever way, and are set back to the values that they had leave the
-- market that was, and so do a rung and a whole ladder.
abbrev pub SetBackIsAsBefore : Type 0
SetBackIsAsBefore = (s : State) (group : List Quoted) → AreQuoted s.market group → (change : ℤ → ℤ)
    → (all_set (λ value. value) group (all_set change group s)).market ≡ s.market

abbrev pub RungsLeaveTheMarket : Type 0
RungsLeaveTheMarket = (calc : Calc) (size : ℤ) (s : State) (o : ℕ) (group : List Quoted) → AreQuoted s.market group
    → (rung_asking calc size o group s).next.market ≡ s.market

abbrev pub LaddersLeaveTheMarket : Type 0
LaddersLeaveTheMarket = (calc : Calc) (size : ℤ) (s : State) (o : ℕ) (bumps : List Bump)
    → (ladder_asking calc size o bumps s).next.market ≡ s.market

-- quotes set one by one, each by its notice, leave the market in which all have these values
abbrev pub SettingIsMoving : Type 0
SettingIsMoving = (s : State) (group : List Quoted) → AreQuoted s.market group → (change : ℤ → ℤ)
    → (all_set change group s).market ≡ with_values change group s.market

-- a ladder neither freezes nor defers
abbrev pub LaddersHoldNothing : Type 0
LaddersHoldNothing = (calc : Calc) (size : ℤ) (s : State) (o : ℕ) (bumps : List Bump) → HoldsNothing s
    → HoldsNothing (ladder_asking calc size o bumps s).next
