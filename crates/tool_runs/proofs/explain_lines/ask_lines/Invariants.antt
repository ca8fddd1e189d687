use Rattle.tool_script.specs.Grid.{column}
use Rattle.tool_script.specs.Shown.{rows_in}
use Rattle.tool_runs.proofs.Telling.{Telling, left_of}
use Rattle.tool_runs.proofs.explain_lines.ask_lines.Given as goal

abbrev pub invariant-loop-row : goal.invariant-loop-row
invariant-loop-row l = record {
  telling : Telling l.names l.asked (column l.at (rows_in l.rows)) l.initial.out.items (left_of l.at l.rows l.row-index) l.first
      l.last l.out.items;
}
