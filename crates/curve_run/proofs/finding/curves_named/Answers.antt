use Rattle.std.proofs.Common.{List, ℕ, Result, Err, sym, ◌∙◌, ap, subst}
use Rattle.std.specs.Prelude.{IfOk, map}
use Rattle.std.specs.String.{string_bytes}
use Rattle.curve_run.specs.Named.{ItemsAre}
use Rattle.curve_run.proofs.Served.{named_some, named_none}
use Rattle.curve_run.proofs.finding.curves_named.Goals as goal

pub returns-then-has_curve-clause-named : goal.returns-then-has_curve-clause-named
returns-then-has_curve-clause-named c =
    subst (λ (named : Result (List ℕ) (List ℕ)). IfOk c.all_named.result (λ found. ItemsAre found named))
    (sym (named_some c.args.desk.now.market c.args.names.now (map string_bytes c.args.texts.now) (sym c.has_curve.ensures ∙ c.if-has_curve.true)))
    c.all_named.ensures.named

pub returns-in_ok-none_line-clause-named : goal.returns-in_ok-none_line-clause-named
returns-in_ok-none_line-clause-named c =
    named_none c.args.desk.now.market c.args.names.now (map string_bytes c.args.texts.now) (sym c.has_curve.ensures ∙ c.if-has_curve.false)
    ∙ ap Err (sym c.in_ok-none_line.ensures)
