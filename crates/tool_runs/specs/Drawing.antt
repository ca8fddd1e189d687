-- What is drawn, and what is computed for it (this project's profile).
use Rattle.std.specs.Prelude.{ℕ, Bool, List}
use Rattle.desk_terms.specs.Reading.{Calc}
use Rattle.tool_script.specs.Asking.{Wanted, script_asks}
use Rattle.tool_script.specs.declared.status.Status.{Status}
use Rattle.tool_script.specs.Verdict.{ScriptRun}
use Rattle.tool_script.specs.Played.{script_end, script_calls}
use Rattle.session_graph.specs.Graph.{session_graph}
use Rattle.tool_frame.specs.Tool.{Tool}
use Rattle.tool_runs.specs.GraphWords.{Paths, paths_of}

-- THE GRAPH of the session of a script as it stands behind its last command
abbrev pub output_in : Calc → ScriptRun → List ℕ
output_in calc run = session_graph (script_end calc run).standing

-- the computations of its commands: the graph needs none
abbrev pub computed_in : Calc → ScriptRun → List (ℕ × Bool)
computed_in calc run = script_calls calc run

-- THE TOOL: its words are `MARKET SCRIPT`
abbrev pub graph_tool : Tool Paths (Wanted Paths) Status
graph_tool = record {
  asks = script_asks paths_of (λ paths. paths.market) (λ paths. paths.script);
  output = λ calc wanted. output_in calc wanted.run;
  computed = λ calc wanted. computed_in calc wanted.run;
  NeedsBench = λ wanted. Unit {0};
}
