-- What is asked of words and files, what is written, and what is computed for it (this project's profile).
use Rattle.std.specs.Prelude.{ℕ, Bool, List}
use Rattle.tool_script.specs.Verdict.{ScriptRun}
use Rattle.desk_terms.specs.Reading.{Calc}
use Rattle.tool_script.specs.Grid.{grid, grid_calls}
use Rattle.tool_script.specs.declared.shape.Blocks.TheVariants.{Scenarios}
use Rattle.tool_script.specs.declared.blocks_status.BlocksStatus.{BlocksStatus}
use Rattle.tool_script.specs.BlocksAsking.{basis_of, blocks_asks}
use Rattle.tool_frame.specs.Tool.{Tool}
use Rattle.tool_frame.specs.Words.{Pair}

-- the bytes that are written, and the computations that are made
abbrev pub output_in : Calc → ScriptRun → List ℕ
output_in calc run = grid calc (basis_of run) run.script

abbrev pub computed_in : Calc → ScriptRun → List (ℕ × Bool)
computed_in calc run = grid_calls calc (basis_of run) run.script

-- the tool that it is: of a script of scenarios over a market
abbrev pub grid_tool : Tool Pair ScriptRun BlocksStatus
grid_tool = record {
  asks = blocks_asks Scenarios;
  output = output_in;
  computed = computed_in;
  NeedsBench = λ run. Unit {0};
}
