-- What a program about a bond says beside its accrued interest, price and yield.
use Rattle.std.specs.Prelude.{ℕ, ℤ, List, Option}
use Rattle.flow_terms.specs.declared.flows.FlowTerm.{FlowTerm}
use Rattle.market_file.specs.Market.{Market}

-- a bond that has a yield at a price: its market and the engine that it names there, its name and its flows, the settlement day, the full price, and
-- the yield in units of 10^-9
pub record Bond : Type 0 where
  pub market : Market
  pub engine : Option ℕ
  pub name : List ℕ
  pub flows : List FlowTerm
  pub settle : ℤ
  pub full : ℤ
  pub yield : ℕ

-- what it is asked for, and what it says behind the yield of a bond
pub record Wording : Type 0 where
  pub word : List ℕ
  pub more : Bond → List ℕ
