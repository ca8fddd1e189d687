use Rattle.std.proofs.Common.{◌≡◌, ℤ, Option, Some, None, length, refl, sym, subst}
use Rattle.std.specs.Prelude.{IfOk}
use Rattle.bump_model.specs.Asking.{Asks, asking_for}
use Rattle.bump_model.specs.Sides.{rung_for}
use Rattle.bump_model.proofs.Calls.{Did, made_none}
use Rattle.bump_model.proofs.Moving.{one_quoted}
use Rattle.bump_ladder.specs.declared.sides.Step.{Step}
use Rattle.bump_ladder.proofs.Siding.{quoted_value}
use Rattle.bump_ladder.proofs.rungs.quote_rung.Goals as goal

pub returns-in-None-clause-rung : goal.returns-in-None-clause-rung
returns-in-None-clause-rung g c = rw (quoted_value c.args.desk.now.market c.args.quote None (rw c.deref.ensures at c.in-None.ensures)) refl

pub returns-in-None-clause-runs : goal.returns-in-None-clause-runs
returns-in-None-clause-runs g c = rw (quoted_value c.args.desk.now.market c.args.quote None (rw c.deref.ensures at c.in-None.ensures)) refl

pub returns-in-None-clause-asks : goal.returns-in-None-clause-asks
returns-in-None-clause-asks g c =
    subst (λ (v : Option ℤ). Did (asking_for (g.B.Bench.calc c.args.bench.now) c.args.size c.args.object c.args.quote v c.args.desk.now) c.args.desk.now
    (g.B.Bench.count c.args.bench.now) (g.B.Bench.count c.args.bench.now) (g.B.Bench.log c.args.bench.now) (g.B.Bench.log c.args.bench.now))
    (sym (quoted_value c.args.desk.now.market c.args.quote None (rw c.deref.ensures at c.in-None.ensures)))
    (refl, made_none (g.B.Bench.count c.args.bench.now) (g.B.Bench.log c.args.bench.now))

pub group_rung-requires-clause-quoted : goal.group_rung-requires-clause-quoted
group_rung-requires-clause-quoted g c =
    one_quoted c.args.desk.now.market c.args.quote c.in-Some.value
    (quoted_value c.args.desk.now.market c.args.quote (Some c.in-Some.value) (rw c.deref.ensures at c.in-Some.ensures))

pub returns-in-Some-clause-rung : goal.returns-in-Some-clause-rung
returns-in-Some-clause-rung g c =
    subst (λ (v : Option ℤ). IfOk c.group_rung.result (λ (step : Step). step.rung
    ≡ rung_for (g.B.Bench.calc c.args.bench.now) c.args.size c.args.desk.now.market c.args.object c.args.base c.args.quote v))
    (sym (quoted_value c.args.desk.now.market c.args.quote (Some c.in-Some.value) (rw c.deref.ensures at c.in-Some.ensures))) c.group_rung.ensures.rung

pub returns-in-Some-clause-runs : goal.returns-in-Some-clause-runs
returns-in-Some-clause-runs g c =
    subst (λ (v : Option ℤ). IfOk c.group_rung.result (λ (step : Step). step.runs
    ≡ length (asking_for (g.B.Bench.calc c.args.bench.now) c.args.size c.args.object c.args.quote v c.args.desk.now).calls))
    (sym (quoted_value c.args.desk.now.market c.args.quote (Some c.in-Some.value) (rw c.deref.ensures at c.in-Some.ensures))) c.group_rung.ensures.runs

pub returns-in-Some-clause-asks : goal.returns-in-Some-clause-asks
returns-in-Some-clause-asks g c =
    subst (λ (v : Option ℤ). Asks (asking_for (g.B.Bench.calc c.args.bench.now) c.args.size c.args.object c.args.quote v c.args.desk.now)
    c.group_rung.result c.group_rung.new.desk (g.B.Bench.count c.args.bench.now) (g.B.Bench.count c.group_rung.new.bench)
    (g.B.Bench.log c.args.bench.now) (g.B.Bench.log c.group_rung.new.bench))
    (sym (quoted_value c.args.desk.now.market c.args.quote (Some c.in-Some.value) (rw c.deref.ensures at c.in-Some.ensures))) c.group_rung.ensures.asks
