use Rattle.std.proofs.Common.{◌++◌, ◌∷◌, [], ℕ, ℤ, List, Option, ◌∙◌, ap}
use Rattle.std.proofs.lemmas.Result.{err_from_is_err_and}
use Rattle.session_rounds.specs.Goes.{Output}
use Rattle.tool_script.specs.Scenario.{after, values_of}
use Rattle.tool_script.specs.Grid.{Row, label_text}
use Rattle.tool_script.specs.Shown.{row_in, rows_in}
use Rattle.tool_script.specs.declared.shown.Shown.{Shown}
use Rattle.tool_script.proofs.GridRows.{rows_push}
use Rattle.tool_script.proofs.Calling.{calls_any}
use Rattle.tool_frame.proofs.Calling.{begins_none}
use Rattle.tool_script.proofs.Courses.{course_begins}
use Rattle.tool_script.proofs.Steps.{on_ok, ok_more}
use Rattle.tool_runs.proofs.Going.{heading_text}
use Rattle.tool_runs.proofs.explain_steps.add_step.Goals as goal

pub returns-in_err-heading-clause-calls : goal.returns-in_err-heading-clause-calls
returns-in_err-heading-clause-calls g c =
    let from = c.from_residual in
    let p = err_from_is_err_and from.result from.ensures.1 in
    rw p.1 (begins_none _ (g.B.Bench.count c.args.bench.now) (g.B.Bench.log c.args.bench.now))

pub returns-in_err-move_and_ask-clause-calls : goal.returns-in_err-move_and_ask-clause-calls
returns-in_err-move_and_ask-clause-calls g c =
    let from = c.from_residual-in_err-move_and_ask in
    let p = err_from_is_err_and from.result from.ensures.1 in
    rw p.1 (course_begins (g.B.Bench.calc c.args.bench.now) (c.args.moves.now ++ c.args.asks.now) c.args.session.now
    c.heading.new.out.items c.move_and_ask.new.lines.items (g.B.Bench.count c.args.bench.now) (g.B.Bench.count c.move_and_ask.new.bench)
    (g.B.Bench.log c.args.bench.now) (g.B.Bench.log c.move_and_ask.new.bench) c.in_err-move_and_ask.ensures.halts)

pub returns-clause-calls : goal.returns-clause-calls
returns-clause-calls g c =
    calls_any _ c.push.result (g.B.Bench.count c.args.bench.now) (g.B.Bench.count c.move_and_ask.new.bench)
    (g.B.Bench.log c.args.bench.now) (g.B.Bench.log c.move_and_ask.new.bench) (record {
      count = ap (λ (o : Output). o.count) c.in_ok-move_and_ask.ensures.out;
      log = ap (λ (o : Output). o.log) c.in_ok-move_and_ask.ensures.out;
    })

pub returns-clause-lines : goal.returns-clause-lines
returns-clause-lines g c =
    on_ok c.push.result
    (heading_text (label_text c.args.names.now c.args.name.now) _ c.args.lines.now.items c.heading.new.out.items
    c.move_and_ask.new.lines.items c.in_ok-heading.ensures (ap (λ (o : Output). o.lines) c.in_ok-move_and_ask.ensures.out))

pub returns-clause-rows : goal.returns-clause-rows
returns-clause-rows g c =
    let calc = g.B.Bench.calc c.args.bench.now in
    let shown = values_of calc c.args.asks.now (after calc c.args.moves.now c.args.session.now) in
    ok_more c.push.result
    (λ is. ap rows_in is
    ∙ rows_push c.args.rows.now c.shown-row.result
    ∙ ap (λ (s : Shown). rows_in c.args.rows.now ++ row_in s ∷ []) c.shown-row.ensures
    ∙ ap (λ (v : List (Option ℤ)). rows_in c.args.rows.now ++ row_with c.args.name.now v ∷ [])
    (c.in_ok-move_and_ask.ensures.values ∙ ap (λ (v : List (Option ℤ)). v ++ shown) c.new-values.ensures))
    c.push.ensures.ok
  where
    row_with : Option ℕ → List (Option ℤ) → Row
    row_with name values = record { name = name; values = values }

pub returns-clause-next : goal.returns-clause-next
returns-clause-next g c = on_ok c.push.result c.in_ok-move_and_ask.ensures.next

pub returns-clause-going : goal.returns-clause-going
returns-clause-going g c = on_ok c.push.result c.in_ok-move_and_ask.ensures.going

pub returns-clause-names : goal.returns-clause-names
returns-clause-names g c = on_ok c.push.result c.in_ok-move_and_ask.ensures.names
