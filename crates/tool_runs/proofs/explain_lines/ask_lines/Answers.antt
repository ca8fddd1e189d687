use Rattle.std.proofs.Common.{◌++◌, ◌+◌, ℤ, Option, ◌∙◌, ap, subst}
use Rattle.tool_script.specs.Grid.{column}
use Rattle.tool_script.specs.Shown.{rows_in}
use Rattle.tool_runs.specs.declared.told.Told.{Told}
use Rattle.tool_runs.specs.Explanation.{told_line, total_line}
use Rattle.tool_runs.specs.Gains.{told}
use Rattle.tool_script.proofs.Steps.{ok_more}
use Rattle.tool_runs.proofs.Telling.{Entries, Telling, telling_none, telling_more, telling_done, left_of, left_next, left_none}
use Rattle.tool_runs.proofs.explain_lines.ask_lines.Goals as goal

pub loop-row-init : goal.loop-row-init
loop-row-init c = record {
  telling = telling_none c.args.names.now c.args.asked.now (column c.args.at (rows_in c.args.rows.now)) c.args.out.now.items;
}

pub loop-row-preserved : goal.loop-row-preserved
loop-row-preserved c =
    let names = c.args.names.now in
    let entries = column c.args.at (rows_in c.args.rows.now) in
    let row = c.row-item.result in
    let now = c.loop-row.out.items in
    let line = c.in_ok-told_line.ensures
    ∙ ap (λ (t : Told). now ++ told_line names c.args.asked.now row.name t) c.told.ensures
    ∙ ap (λ (s : Option ℤ). now ++ told_line names c.args.asked.now row.name (told c.loop-row.last s)) c.value_at-shown.ensures in
    record {
      telling = rw (c.latter-first.ensures, c.latter-last.ensures, c.value_at-shown.ensures) (telling_more names c.args.asked.now entries
          c.args.out.now.items row.name _ (left_of c.args.at c.args.rows.now (c.loop-row.row-index + 1)) c.loop-row.first c.loop-row.last
          now c.told_line.new.out.items
          (subst (λ (rest : Entries). Telling names c.args.asked.now entries c.args.out.now.items rest c.loop-row.first c.loop-row.last now)
          (left_next c.args.at c.args.rows.now c.loop-row.row-index row c.loop-row-test.true c.row-item.is)
          c.loop-row.invariant.telling)
          line);
    }

pub returns : goal.returns
returns c =
    let names = c.args.names.now in
    let entries = column c.args.at (rows_in c.args.rows.now) in
    let now = c.loop-row.out.items in
    ok_more c.total_line.result
    (λ is. telling_done names c.args.asked.now entries c.args.out.now.items c.loop-row.first c.loop-row.last now c.total_line.new.out.items
    (subst (λ (rest : Entries). Telling names c.args.asked.now entries c.args.out.now.items rest c.loop-row.first c.loop-row.last now)
    (left_none c.args.at c.args.rows.now c.loop-row.row-index c.loop-row-test.false) c.loop-row.invariant.telling)
    (is ∙ ap (λ (t : Option ℤ). now ++ total_line names c.args.asked.now t) c.difference.ensures))
    c.total_line.ensures
