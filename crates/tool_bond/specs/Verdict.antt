-- What a program about a bond asks of words and files, and what it writes (this project's profile).
use Rattle.std.specs.Prelude.{ℕ, Bool, List, []}
use Rattle.desk_terms.specs.Reading.{Calc}
use Rattle.tool_frame.specs.declared.status.MarketStatus.{MarketStatus}
use Rattle.tool_frame.specs.Market.{market_asks}
use Rattle.tool_frame.specs.Market as tool
use Rattle.tool_frame.specs.Tool.{Tool}
use Rattle.tool_bond.specs.Lines.{market_text}
use Rattle.tool_bond.specs.Named.{is_refused}
use Rattle.tool_bond.specs.Wording.{Wording}
use Rattle.tool_bond.specs.Words.{Request, request_of}

-- a market, and what is asked of it: the name of the bond that is wanted, the settlement day and the clean price
abbrev pub Wanted : Type 0
Wanted = tool.Wanted Request

-- the bytes that are written
abbrev pub output_in : Wording → Wanted → List ℕ
output_in said wanted = market_text said wanted.market wanted.request.name wanted.request.settle wanted.request.clean

-- the name stands for no flows
abbrev pub refuses_in : Calc → Wanted → Bool
refuses_in calc wanted = is_refused wanted.market wanted.request.name

-- the tool that it is: it computes no price
abbrev pub bond_tool : Wording → Tool Request Wanted MarketStatus
bond_tool said = record {
  asks = market_asks request_of (λ request. request.market);
  output = λ calc wanted. output_in said wanted;
  computed = λ calc wanted. [];
  NeedsBench = λ wanted. ⊥;
}
