use Rattle.std.proofs.Common.{◌++◌, ◌∷◌, [], ℕ, ℤ, List, Option, ◌∙◌, ap}
use Rattle.std.proofs.lemmas.Result.{err_from_is_err_and}
use Rattle.tool_script.specs.Grid.{Row, label_text}
use Rattle.tool_script.specs.Shown.{row_in, rows_in}
use Rattle.tool_script.specs.declared.shown.Shown.{Shown}
use Rattle.tool_script.proofs.Calling.{calls_any}
use Rattle.tool_frame.proofs.Calling.{begins_none}
use Rattle.tool_script.proofs.GridRows.{rows_push}
use Rattle.scenario_grid.proofs.Grids.{heading_text}
use Rattle.tool_script.proofs.Steps.{on_ok, ok_more}
use Rattle.scenario_grid.proofs.grid.add_scenario.Goals as goal

pub returns-in_err-heading-clause-calls : goal.returns-in_err-heading-clause-calls
returns-in_err-heading-clause-calls g c =
    let from = c.from_residual in
    let p = err_from_is_err_and from.result from.ensures.1 in
    rw p.1 (begins_none _ (g.B.Bench.count c.args.bench.now) (g.B.Bench.log c.args.bench.now))

pub returns-in_err-values-clause-calls : goal.returns-in_err-values-clause-calls
returns-in_err-values-clause-calls g c =
    let from = c.from_residual-in_err-values in
    let p = err_from_is_err_and from.result from.ensures.1 in
    rw p.1 c.in_err-values.ensures.calls

pub returns-clause-calls : goal.returns-clause-calls
returns-clause-calls g c =
    calls_any _ c.push.result (g.B.Bench.count c.args.bench.now) (g.B.Bench.count c.values_of.new.bench)
    (g.B.Bench.log c.args.bench.now) (g.B.Bench.log c.values_of.new.bench) c.in_ok-values.ensures.calls

pub returns-clause-lines : goal.returns-clause-lines
returns-clause-lines g c =
    on_ok c.push.result
    (heading_text (label_text c.args.names.now c.args.name.now) _ c.args.lines.now.items c.heading.new.out.items
    c.values_of.new.lines.items c.in_ok-heading.ensures c.in_ok-values.ensures.lines)

pub returns-clause-rows : goal.returns-clause-rows
returns-clause-rows g c =
    ok_more c.push.result
    (λ is. ap rows_in is
    ∙ rows_push c.args.rows.now c.shown-row.result
    ∙ ap (λ (s : Shown). rows_in c.args.rows.now ++ row_in s ∷ []) c.shown-row.ensures
    ∙ ap (λ (v : List (Option ℤ)). rows_in c.args.rows.now ++ row_with c.args.name.now v ∷ []) c.in_ok-values.ensures.values)
    c.push.ensures.ok
  where
    row_with : Option ℕ → List (Option ℤ) → Row
    row_with name values = record { name = name; values = values }
