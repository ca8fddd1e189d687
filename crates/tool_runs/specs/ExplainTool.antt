-- What is done for words and files that are accepted (this project's profile).
use Rattle.std.specs.Prelude.{ℕ, Bool, List}
use Rattle.tool_script.specs.Verdict.{ScriptRun}
use Rattle.desk_terms.specs.Reading.{Calc}
use Rattle.tool_runs.specs.Explanation.{explanation, explanation_calls}
use Rattle.tool_script.specs.declared.shape.Blocks.TheVariants.{Steps}
use Rattle.tool_script.specs.declared.blocks_status.BlocksStatus.{BlocksStatus}
use Rattle.tool_script.specs.BlocksAsking as blocks
use Rattle.tool_frame.specs.Tool.{Tool}
use Rattle.tool_frame.specs.Words.{Pair}

-- the bytes that are written, and the computations that are made
abbrev pub output_in : Calc → ScriptRun → List ℕ
output_in calc run = explanation calc (blocks.basis_of run) run.script

abbrev pub computed_in : Calc → ScriptRun → List (ℕ × Bool)
computed_in calc run = explanation_calls calc (blocks.basis_of run) run.script

-- THE TOOL: its words are `MARKET SCRIPT`
abbrev pub explain_tool : Tool Pair ScriptRun BlocksStatus
explain_tool = record {
  asks = blocks.blocks_asks Steps;
  output = output_in;
  computed = computed_in;
  NeedsBench = λ run. Unit {0};
}
