-- A bond of the code, as the definition sees it.
use Rattle.tool_frame.specs.Market.{market_in}
use Rattle.tool_bond.specs.declared.tool.Bond as given
use Rattle.tool_bond.specs.Wording.{Bond}

abbrev pub bond_in : given.Bond → Bond
bond_in bond = record {
  market = market_in bond.market.now;
  engine = bond.engine;
  name = bond.name.now;
  flows = bond.flows.now.flows;
  settle = bond.settle;
  full = bond.full;
  yield = bond.y;
}
