-- Small sessions that are worked through by hand: each rung of a ladder, the calls of the bench that it makes, and the
-- market behind it.
use Rattle.std.specs.Prelude.{◌≡◌, ◌^◌, ◌*◌, ◌-◌, ℕ, true, false, List, [], ◌∷◌, length, ℤ, pos, neg_ℤ, Option, Some, None, Ok, Err}
use Rattle.desk_terms.specs.declared.terms.Terms.TheVariants.{Quote, Derived, Stock, Flows}
use Rattle.desk_terms.specs.declared.cause.Cause.TheVariants.{NoEngine, TooLarge}
use Rattle.flow_terms.specs.declared.flows.FlowTerm.TheVariants.{Known}
use Rattle.desk_model.specs.Examples.{plain, day_0}
use Rattle.desk_model.specs.Market.{Market}
use Rattle.desk_model.specs.State.{State}
use Rattle.desk_model.specs.Visit.{log_of}
use Rattle.desk_model.specs.Effect.{made}
use Rattle.bump_model.specs.declared.ladder.Bump.TheVariants.{One, Together}
use Rattle.bump_model.specs.declared.ladder.Side.{Side}
use Rattle.bump_model.specs.declared.ladder.Missing.TheVariants.{Refused, Limit}
use Rattle.bump_model.specs.declared.ladder.Side.TheVariants.{Moved, NoPrice, Unset}
use Rattle.bump_model.specs.declared.ladder.Rung.{Rung}
use Rattle.bump_model.specs.Sides.{worth, rungs_of, each_then_all}
use Rattle.bump_model.specs.Asking.{Asking, ladder_asking}

-- The bench is worth a stock its quote, in the quote's own units.
abbrev pub rung : Option ℕ → Side → Side → Rung
rung label up down = record { label = label; up = up; down = down }

abbrev pub up_down : Option ℕ → ℤ → ℤ → Rung
up_down label up down = rung label (Moved up) (Moved down)

-- quotes are moved by a basis point, each and then all
abbrev pub rungs_in : Market → ℕ → ℤ → List ℕ → List Rung
rungs_in market o base quotes = rungs_of plain (pos 100_000) market o base (each_then_all quotes)

abbrev pub asking : ℕ → List ℕ → State → Asking
asking o quotes s = ladder_asking plain (pos 100_000) o (each_then_all quotes) s

abbrev pub lost : ℕ → ℤ
lost units = neg_ℤ (pos units)

abbrev pub quoted : Option ℤ → State → State
quoted value state = made (Quote value) state

-- The quotes 1, at 1.5, and 2, without a value, and a stock on the first, 3.
abbrev pub two_quotes : State
two_quotes = made (Stock 1) (quoted None (quoted (Some (pos 1_500_000_000)) day_0))

pub record IsTwoQuotes : Type 0 where
  pub base : worth plain two_quotes.market 3 ≡ Ok (pos 1_500_000_000)
  pub rungs : rungs_in two_quotes.market 3 (pos 1_500_000_000) (1 ∷ 2 ∷ []) ≡
      up_down (Some 1) (pos 100_000) (lost 100_000) ∷ rung (Some 2) Unset Unset
      ∷ up_down None (pos 100_000) (lost 100_000) ∷ []
  pub runs : length (asking 3 (1 ∷ 2 ∷ []) two_quotes).calls ≡ 5
  pub market : (asking 3 (1 ∷ 2 ∷ []) two_quotes).next.market ≡ two_quotes.market
  pub unset : length (asking 3 (2 ∷ []) two_quotes).calls ≡ 1
  pub size : rungs_of plain (pos 7) two_quotes.market 3 (pos 1_500_000_000) (Together (Some 3) (1 ∷ 2 ∷ []) ∷ One 1 ∷ []) ≡
      up_down (Some 3) (pos 7) (lost 7) ∷ up_down (Some 1) (pos 7) (lost 7) ∷ []

-- The quotes 1 and 2, and a stock on the first, 3: it is not priced again where the other moves.
abbrev pub beside : State
beside = made (Stock 1) (quoted (Some (pos 9)) (quoted (Some (pos 5)) day_0))

pub record IsBeside : Type 0 where
  pub rungs : rungs_in beside.market 3 (pos 5) (2 ∷ []) ≡ up_down (Some 2) (pos 0) (pos 0) ∷ up_down None (pos 0) (pos 0) ∷ []
  pub runs : log_of (asking 3 (2 ∷ []) beside).calls ≡ (3, true) ∷ []

-- The quote 1 is at the limit of rates; the stock is 2.
abbrev pub at_limit : State
at_limit = made (Stock 1) (quoted (Some (pos (10 ^ 18))) day_0)

-- It is a bump below the limit, or a bump above the lower one.
abbrev pub below_limit : State
below_limit = made (Stock 1) (quoted (Some (pos (10 ^ 18 - 100_000))) day_0)

abbrev pub above_limit : State
above_limit = made (Stock 1) (quoted (Some (neg_ℤ (pos (10 ^ 18 - 100_000)))) day_0)

pub record IsAtLimit : Type 0 where
  pub below : rungs_in below_limit.market 2 (pos (10 ^ 18 - 100_000)) (1 ∷ []) ≡
      up_down (Some 1) (pos 100_000) (lost 100_000) ∷ up_down None (pos 100_000) (lost 100_000) ∷ []
  pub above : rungs_in above_limit.market 2 (neg_ℤ (pos (10 ^ 18 - 100_000))) (1 ∷ []) ≡
      up_down (Some 1) (pos 100_000) (lost 100_000) ∷ up_down None (pos 100_000) (lost 100_000) ∷ []
  pub rungs : rungs_in at_limit.market 2 (pos (10 ^ 18)) (1 ∷ []) ≡
      rung (Some 1) (NoPrice Limit) (Moved (lost 100_000)) ∷ rung None (NoPrice Limit) (Moved (lost 100_000)) ∷ []
  pub runs : length (asking 2 (1 ∷ []) at_limit).calls ≡ 3
  pub market : (asking 2 (1 ∷ []) at_limit).next.market ≡ at_limit.market

-- The quote 1 twice, 2, which is at the limit of rates, and a stock on that, 3.
abbrev pub doubled : State
doubled = made (Stock 2) (made (Derived false 1 1) (quoted (Some (pos (5 * 10 ^ 17))) day_0))

pub record IsRefusedAbove : Type 0 where
  pub rungs : rungs_in doubled.market 3 (pos (10 ^ 18)) (1 ∷ []) ≡
      rung (Some 1) (NoPrice (Refused (TooLarge 2))) (Moved (lost 200_000))
      ∷ rung None (NoPrice (Refused (TooLarge 2))) (Moved (lost 200_000)) ∷ []
  pub runs : length (asking 3 (1 ∷ []) doubled).calls ≡ 3
  pub market : (asking 3 (1 ∷ []) doubled).next.market ≡ doubled.market

-- The sum, 3, of the quotes 1 and 2, the second at its lower limit, and a stock on it, 4.
abbrev pub summed : State
summed = made (Stock 3) (made (Derived false 1 2) (quoted (Some (neg_ℤ (pos (10 ^ 18)))) (quoted (Some (pos 7)) day_0)))

pub record IsTogether : Type 0 where
  pub rungs : rungs_in summed.market 4 (neg_ℤ (pos 999_999_999_999_999_993)) (1 ∷ 2 ∷ []) ≡
      rung (Some 1) (Moved (pos 100_000)) (NoPrice (Refused (TooLarge 3)))
      ∷ rung (Some 2) (Moved (pos 100_000)) (NoPrice Limit)
      ∷ rung None (Moved (pos 200_000)) (NoPrice Limit) ∷ []
  pub runs : length (asking 4 (1 ∷ 2 ∷ []) summed).calls ≡ 4
  pub calls : log_of (asking 4 (1 ∷ []) summed).calls ≡ (4, true) ∷ (4, true) ∷ (4, true) ∷ []
  pub market : (asking 4 (1 ∷ 2 ∷ []) summed).next.market ≡ summed.market

-- A bond that is paid on day 100, 2, without an engine.
abbrev pub without_engine : State
without_engine = made (Flows (record { flows = Known (pos 100) (pos 7) None ∷ []; index = None }) None) (quoted (Some (pos 9)) day_0)

pub record IsWithout : Type 0 where
  pub base : worth plain without_engine.market 2 ≡ Err (NoEngine 2)
  pub runs : (asking 2 (1 ∷ []) without_engine).calls ≡ []
  pub state : (asking 2 (1 ∷ []) without_engine).next ≡ without_engine

-- No quote is moved: the rung of all asks again and computes nothing.
pub record IsBare : Type 0 where
  pub rungs : rungs_in two_quotes.market 3 (pos 1_500_000_000) [] ≡ up_down None (pos 0) (pos 0) ∷ []
  pub runs : length (asking 3 [] two_quotes).calls ≡ 1
