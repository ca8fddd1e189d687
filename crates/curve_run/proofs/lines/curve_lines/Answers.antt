use Rattle.std.proofs.Common.{inl, ℕ, List, Ok, sym, subst}
use Rattle.std.specs.Prelude.{IfOk, map}
use Rattle.std.specs.declared.alloc.AllocError.{AllocError}
use Rattle.std.specs.String.{string_bytes}
use Rattle.std.proofs.lemmas.Result.{err_from_is_err_and}
use Rattle.desk_terms.specs.Reading.{Outcome}
use Rattle.bump_model.specs.Asking.{Calls}
use Rattle.bump_model.proofs.Calls.{calls_none}
use Rattle.market_desk.specs.Standing.{standing}
use Rattle.curve_run.specs.Lines.{Shown, curve_calls}
use Rattle.curve_run.specs.Named.{AreCurves, ItemsAre}
use Rattle.curve_run.proofs.Calling.{text_found, text_lines, calls_found, calls_lines, calls_begun, found_named}
use Rattle.curve_run.proofs.lines.curve_lines.Goals as goal

pub priced_lines-requires-clause-curves : goal.priced_lines-requires-clause-curves
priced_lines-requires-clause-curves g c =
    subst (λ (l : List ℕ). AreCurves c.args.desk.now.market l) (sym c.as_slice.ensures.value) (rw c.in-Ok.is at c.in_ok-named.ensures.curves)

pub returns-in-Ok-clause-shown : goal.returns-in-Ok-clause-shown
returns-in-Ok-clause-shown g c =
    let p = standing c.args.namer.now.names.now c.args.namer.now.of_object.now c.args.desk.now in
    let found = rw c.in-Ok.is at c.in_ok-named.ensures.named in
    subst (λ (text : Shown). IfOk c.priced_lines.result (λ shown. ItemsAre shown text))
    (sym (text_found (g.B.Bench.calc c.args.bench.now) p (map string_bytes c.args.texts.now) c.args.sheet c.in-Ok.objects.items found))
    (rw c.as_slice.ensures.value at c.priced_lines.ensures.shown)

pub returns-in-Ok-clause-calls : goal.returns-in-Ok-clause-calls
returns-in-Ok-clause-calls g c =
    let p = standing c.args.namer.now.names.now c.args.namer.now.of_object.now c.args.desk.now in
    let found = rw c.in-Ok.is at c.in_ok-named.ensures.named in
    subst (λ (calls : List (ℕ × Outcome)). Calls calls c.priced_lines.result (g.B.Bench.count c.args.bench.now)
    (g.B.Bench.count c.priced_lines.new.bench) (g.B.Bench.log c.args.bench.now) (g.B.Bench.log c.priced_lines.new.bench))
    (sym (calls_found (g.B.Bench.calc c.args.bench.now) p (map string_bytes c.args.texts.now) c.in-Ok.objects.items found))
    (rw c.as_slice.ensures.value at c.priced_lines.ensures.calls)

pub returns-in-Ok-clause-alone : goal.returns-in-Ok-clause-alone
returns-in-Ok-clause-alone g c =
    let p = standing c.args.namer.now.names.now c.args.namer.now.of_object.now c.args.desk.now in
    inl (found_named (g.B.Bench.calc c.args.bench.now) p (map string_bytes c.args.texts.now) c.in-Ok.objects.items (rw c.in-Ok.is at c.in_ok-named.ensures.named))

pub returns-in-Err-clause-shown : goal.returns-in-Err-clause-shown
returns-in-Err-clause-shown g c =
    let p = standing c.args.namer.now.names.now c.args.namer.now.of_object.now c.args.desk.now in
    text_lines (g.B.Bench.calc c.args.bench.now) p (map string_bytes c.args.texts.now) c.args.sheet c.in-Err.lines.items
    (rw c.in-Err.is at c.in_ok-named.ensures.named)

pub returns-in-Err-clause-calls : goal.returns-in-Err-clause-calls
returns-in-Err-clause-calls g c =
    let p = standing c.args.namer.now.names.now c.args.namer.now.of_object.now c.args.desk.now in
    calls_none {E = AllocError} (curve_calls (g.B.Bench.calc c.args.bench.now) p (map string_bytes c.args.texts.now)) (Ok c.in-Err.lines) (g.B.Bench.count c.args.bench.now) (g.B.Bench.log c.args.bench.now)
    (calls_lines (g.B.Bench.calc c.args.bench.now) p (map string_bytes c.args.texts.now) c.in-Err.lines.items (rw c.in-Err.is at c.in_ok-named.ensures.named))

pub returns-in_err-named-clause-calls : goal.returns-in_err-named-clause-calls
returns-in_err-named-clause-calls g c =
    let p = err_from_is_err_and c.from_residual.result c.from_residual.ensures.1 in
    calls_begun (curve_calls (g.B.Bench.calc c.args.bench.now) (standing c.args.namer.now.names.now c.args.namer.now.of_object.now c.args.desk.now) (map string_bytes c.args.texts.now))
    c.from_residual.result (g.B.Bench.count c.args.bench.now) (g.B.Bench.log c.args.bench.now) p.0 p.1
