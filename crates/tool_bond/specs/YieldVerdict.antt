-- What is asked of words and files, and what is written (this project's profile).
use Rattle.tool_frame.specs.declared.status.MarketStatus.{MarketStatus}
use Rattle.tool_frame.specs.Tool.{Tool}
use Rattle.tool_bond.specs.Verdict.{Wanted, bond_tool}
use Rattle.tool_bond.specs.Words.{Request}
use Rattle.tool_bond.specs.YieldSays.{yield_says}

-- a program about a bond, with nothing behind its yield
abbrev pub yield_tool : Tool Request Wanted MarketStatus
yield_tool = bond_tool yield_says
