use Rattle.std.proofs.Common.{◌++◌, ℕ, Option, ◌∙◌, ap, arith}
use Rattle.tool_script.specs.Grid.{column}
use Rattle.tool_script.specs.Shown.{rows_in}
use Rattle.tool_runs.specs.Explanation.{ask_lines}
use Rattle.tool_runs.proofs.Telling.{gains_more, gains_end}
use Rattle.tool_runs.proofs.explain_lines.gain_lines.Goals as goal

pub loop-at-preserved : goal.loop-at-preserved
loop-at-preserved c =
    let names = c.args.names.now in
    let rows = rows_in c.args.rows.now in
    let old = c.loop-at.out.items in
    let line = c.in_ok-ask_lines.ensures
    ∙ ap (λ (n : Option ℕ). old ++ ask_lines names n (column c.loop-at.at rows)) c.asked_name-asked.ensures in
    record {
      within = let less = c.loop-at-test.true in omega (arith, less);
      lines = gains_more names rows c.args.asks.now c.loop-at.at c.index-asks-at.result _ old c.ask_lines.new.out.items
          c.loop-at-test.true c.index-asks-at.is line c.loop-at.invariant.lines;
    }

pub returns : goal.returns
returns c =
    gains_end c.args.names.now (rows_in c.args.rows.now) c.args.asks.now c.loop-at.at _ c.loop-at.out.items
    c.loop-at-test.false c.loop-at.invariant.lines
