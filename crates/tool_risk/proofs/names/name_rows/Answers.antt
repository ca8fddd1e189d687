use Rattle.std.proofs.Common.{◌≡◌, ◌++◌, ℕ, List, refl, sym, subst}
use Rattle.std.specs.Prelude.{OnOk}
use Rattle.bump_model.specs.Asking.{Asking, Asks}
use Rattle.bump_model.proofs.Calls.{made_none}
use Rattle.bump_ladder.proofs.Answered.{asks_any}
use Rattle.tool_risk.proofs.Naming.{named_asking, named_text}
use Rattle.tool_risk.proofs.names.name_rows.Goals as goal

pub returns-in-Ok-clause-lines : goal.returns-in-Ok-clause-lines
returns-in-Ok-clause-lines g c =
    subst (λ (text : List ℕ). OnOk c.object_rows.result (c.object_rows.new.lines.items ≡ c.args.lines.now.items ++ text))
    (sym (named_text (g.B.Bench.calc c.args.bench.now) c.args.size c.args.namer.now.names.now c.args.name.now c.args.desk.now _ c.in-Ok.ensures c.args.namer.now.of_object.now))
    c.object_rows.ensures.lines

pub returns-in-Ok-clause-asks : goal.returns-in-Ok-clause-asks
returns-in-Ok-clause-asks g c =
    subst (λ (a : Asking). Asks a c.object_rows.result c.object_rows.new.desk (g.B.Bench.count c.args.bench.now) (g.B.Bench.count c.object_rows.new.bench)
    (g.B.Bench.log c.args.bench.now) (g.B.Bench.log c.object_rows.new.bench))
    (sym (named_asking (g.B.Bench.calc c.args.bench.now) c.args.size c.args.namer.now.names.now c.args.name.now c.args.desk.now _ c.in-Ok.ensures))
    c.object_rows.ensures.asks

pub returns-in-Err-clause-lines : goal.returns-in-Err-clause-lines
returns-in-Err-clause-lines g c =
    subst (λ (text : List ℕ). OnOk c.unnamed_row.result (c.unnamed_row.new.lines.items ≡ c.args.lines.now.items ++ text))
    (sym (named_text (g.B.Bench.calc c.args.bench.now) c.args.size c.args.namer.now.names.now c.args.name.now c.args.desk.now _ c.in-Err.ensures c.args.namer.now.of_object.now))
    c.unnamed_row.ensures

pub returns-in-Err-clause-asks : goal.returns-in-Err-clause-asks
returns-in-Err-clause-asks g c =
    subst (λ (a : Asking). Asks a c.unnamed_row.result c.args.desk.now (g.B.Bench.count c.args.bench.now) (g.B.Bench.count c.args.bench.now)
    (g.B.Bench.log c.args.bench.now) (g.B.Bench.log c.args.bench.now))
    (sym (named_asking (g.B.Bench.calc c.args.bench.now) c.args.size c.args.namer.now.names.now c.args.name.now c.args.desk.now _ c.in-Err.ensures))
    (asks_any _ c.unnamed_row.result _ _ _ _ _ (refl, made_none (g.B.Bench.count c.args.bench.now) (g.B.Bench.log c.args.bench.now)))
