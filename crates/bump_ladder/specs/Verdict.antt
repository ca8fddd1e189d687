-- What the tool is (this project's profile).
use Rattle.desk_model.specs.Visit.{log_of}
use Rattle.market_desk.specs.Standing.{standing_of}
use Rattle.tool_frame.specs.declared.status.MarketStatus.{MarketStatus}
use Rattle.tool_frame.specs.Market.{Wanted, market_asks}
use Rattle.tool_frame.specs.Tool.{Tool}
use Rattle.tool_frame.specs.Words.{Pair, pair_of}
use Rattle.bump_ladder.specs.Lines.{bump_text, bump_calls, IsNamed}

-- THE TOOL: it asks for a market by the words `MARKET NAME`, the second of which is the name of the instrument that is wanted. Its text
-- is the lines of the name, for which it makes these computations; it needs a bench where the name is an instrument's, so that a
-- line tells how many were made
abbrev pub bump_tool : Tool Pair (Wanted Pair) MarketStatus
bump_tool = record {
  asks = market_asks pair_of (λ (pair : Pair). pair.market);
  output = λ calc wanted. bump_text calc (standing_of wanted.market) wanted.request.other;
  computed = λ calc wanted. log_of (bump_calls calc (standing_of wanted.market) wanted.request.other);
  NeedsBench = λ wanted. IsNamed (standing_of wanted.market) wanted.request.other;
}
