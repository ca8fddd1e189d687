use Rattle.std.proofs.Common.{◌≡◌, ℕ, Option, ap, arith}
use Rattle.std.specs.Prelude.{is_some}
use Rattle.link_table.proofs.Counting.{one_if}
use Rattle.link_table.proofs.Fitting.{leaves_one}
use Rattle.link_table.proofs.watching.unwatch_target.Goals as goal

pub returns-in-Some-clause-leaves : goal.returns-in-Some-clause-leaves
returns-in-Some-clause-leaves c = leaves_one c.args.graph.now c.unwatch.new.self c.args.holder c.in-Some.target
    c.args.target c.in-Some.is c.unwatch.ensures.pairs

pub returns-in-Some-clause-spare : goal.returns-in-Some-clause-spare
returns-in-Some-clause-spare c =
    let was : one_if c.unwatch.result ≡ 1 =
    ap one_if (c.unwatch.ensures.was.1 (c.requires.target c.in-Some.target c.in-Some.is).1) in
    let is : one_if (is_some c.args.target) ≡ 1 = ap (λ (t : Option ℕ). one_if (is_some t)) c.in-Some.is in
    let e = c.unwatch.ensures.spare in omega arith
