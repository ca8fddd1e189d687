use Rattle.std.proofs.Common.{◌≡◌, ◌++◌, ℕ, List, sym, subst}
use Rattle.std.specs.Prelude.{OnOk}
use Rattle.desk_terms.specs.Reading.{Outcome}
use Rattle.bump_model.specs.Asking.{Calls}
use Rattle.bump_model.proofs.Calls.{calls_none}
use Rattle.market_desk.specs.Standing.{standing}
use Rattle.bump_ladder.proofs.Calling.{text_named, text_unnamed, calls_named, calls_unnamed}
use Rattle.bump_ladder.proofs.lines.bump_lines.Goals as goal

pub returns-in-Ok-clause-lines : goal.returns-in-Ok-clause-lines
returns-in-Ok-clause-lines g c =
    let p = standing c.args.namer.now.names.now c.args.namer.now.of_object.now c.args.desk.now in
    subst (λ (text : List ℕ). OnOk c.instrument_lines.result (c.instrument_lines.new.lines.items ≡ c.args.lines.now.items ++ text))
    (sym (text_named (g.B.Bench.calc c.args.bench.now) p c.args.name.now c.in-Ok.object c.in-Ok.ensures))
    c.instrument_lines.ensures.lines

pub returns-in-Ok-clause-calls : goal.returns-in-Ok-clause-calls
returns-in-Ok-clause-calls g c =
    let p = standing c.args.namer.now.names.now c.args.namer.now.of_object.now c.args.desk.now in
    subst (λ (calls : List (ℕ × Outcome)). Calls calls c.instrument_lines.result (g.B.Bench.count c.args.bench.now)
    (g.B.Bench.count c.instrument_lines.new.bench) (g.B.Bench.log c.args.bench.now) (g.B.Bench.log c.instrument_lines.new.bench))
    (sym (calls_named (g.B.Bench.calc c.args.bench.now) p c.args.name.now c.in-Ok.object c.in-Ok.ensures))
    c.instrument_lines.ensures.calls

pub returns-in-Err-clause-lines : goal.returns-in-Err-clause-lines
returns-in-Err-clause-lines g c =
    let p = standing c.args.namer.now.names.now c.args.namer.now.of_object.now c.args.desk.now in
    subst (λ (text : List ℕ). OnOk c.unnamed_line.result (c.unnamed_line.new.lines.items ≡ c.args.lines.now.items ++ text))
    (sym (text_unnamed (g.B.Bench.calc c.args.bench.now) p c.args.name.now c.in-Err.why c.in-Err.ensures))
    c.unnamed_line.ensures

pub returns-in-Err-clause-calls : goal.returns-in-Err-clause-calls
returns-in-Err-clause-calls g c =
    let p = standing c.args.namer.now.names.now c.args.namer.now.of_object.now c.args.desk.now in
    calls_none _ c.unnamed_line.result (g.B.Bench.count c.args.bench.now) (g.B.Bench.log c.args.bench.now)
    (calls_unnamed (g.B.Bench.calc c.args.bench.now) p c.args.name.now c.in-Err.why c.in-Err.ensures)
