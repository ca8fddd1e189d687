use Rattle.std.proofs.Common.{◌++◌, ℕ, Option, ◌∙◌, ap, arith}
use Rattle.std.specs.Prelude.{option_map}
use Rattle.tool_script.specs.Kinds.{asked_name}
use Rattle.tool_script.specs.Grid.{worst_line}
use Rattle.tool_script.specs.Worst.{Worst}
use Rattle.tool_script.specs.Shown.{rows_in, worst_in}
use Rattle.tool_script.proofs.Columns.{lines_more, lines_end}
use Rattle.tool_script.proofs.grid_lines.worst_lines.Goals as goal

pub loop-at-preserved : goal.loop-at-preserved
loop-at-preserved c =
    let names = c.args.names.now in
    let ask = c.index-asks-at.result in
    let old = c.loop-at.out.items in
    let line = c.in_ok-worst_line.ensures
    ∙ ap (λ (n : Option ℕ). old ++ worst_line names n (option_map worst_in c.worst_of.result)) c.asked_name.ensures
    ∙ ap (λ (w : Option Worst). old ++ worst_line names (asked_name ask) w) c.worst_of.ensures in
    record {
      within = let less = c.loop-at-test.true in omega (arith, less);
      lines = lines_more names (rows_in c.args.rows.now) c.args.asks.now c.loop-at.at ask _ old c.worst_line.new.out.items
          c.loop-at-test.true c.index-asks-at.is line c.loop-at.invariant.lines;
    }

pub returns : goal.returns
returns c =
    lines_end c.args.names.now (rows_in c.args.rows.now) c.args.asks.now c.loop-at.at _ c.loop-at.out.items
    c.loop-at-test.false c.loop-at.invariant.lines
