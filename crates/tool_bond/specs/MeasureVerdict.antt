-- What is asked of words and files, and what is written (this project's profile).
use Rattle.tool_frame.specs.declared.status.MarketStatus.{MarketStatus}
use Rattle.tool_frame.specs.Tool.{Tool}
use Rattle.tool_bond.specs.Verdict.{Wanted, bond_tool}
use Rattle.tool_bond.specs.Words.{Request}
use Rattle.desk_bench.specs.Pricing.{desk_calc}
use Rattle.tool_bond.specs.MeasureSays.{measure_says}

-- a program about a bond, with its measures and its spread behind its yield
abbrev pub measure_tool : Tool Request Wanted MarketStatus
measure_tool = bond_tool (measure_says desk_calc)
