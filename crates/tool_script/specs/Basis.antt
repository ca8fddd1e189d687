-- What the sessions of a script of blocks stand on: a market, which each has a copy of.
use Rattle.std.specs.Prelude.{ℕ, List}
use Rattle.market_file.specs.declared.read.Market as read
use Rattle.tool_script.specs.Scenario.{Basis}

-- the basis of a market that was read, under the names of the market and of a script
abbrev pub basis_in : read.Market → List (List ℕ) → Basis
basis_in market names = record { names = names; today = market.today; made = market.made.items }
