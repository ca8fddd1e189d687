-- What the tool is (this project's profile).
use Rattle.desk_model.specs.Visit.{log_of}
use Rattle.market_desk.specs.Standing.{standing_of}
use Rattle.tool_frame.specs.declared.status.MarketStatus.{MarketStatus}
use Rattle.tool_frame.specs.Market.{Wanted, market_asks}
use Rattle.tool_frame.specs.Tool.{Tool}
use Rattle.tool_risk.specs.Asking.{risk_calls}
use Rattle.tool_risk.specs.Lines.{risk_text}
use Rattle.tool_risk.specs.Words.{Request, request_of}

-- THE TOOL: it asks for a market by the words of a request. Its text is the rows of the instruments that these name, for which it makes
-- these computations; nothing is said of whether it needs a bench
abbrev pub risk_tool : Tool Request (Wanted Request) MarketStatus
risk_tool = record {
  asks = market_asks request_of (λ (request : Request). request.market);
  output = λ calc wanted. risk_text calc (standing_of wanted.market) wanted.request.size wanted.request.names;
  computed = λ calc wanted. log_of (risk_calls calc (standing_of wanted.market) wanted.request.size wanted.request.names);
  NeedsBench = λ _. Unit {0};
}
