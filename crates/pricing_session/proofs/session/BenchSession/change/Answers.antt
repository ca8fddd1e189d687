use Rattle.std.proofs.Common.{◌≡◌, ap, subst}
use Rattle.std.specs.Prelude.{IfSome}
use Rattle.session_model.specs.Standing.{Standing}
use Rattle.pricing_session.specs.Pricing.{Pricing}
use Rattle.pricing_session.proofs.Refused.{refused_stays}
use Rattle.pricing_session.proofs.session.BenchSession.change.Goals as goal

pub returns-clause-refused : goal.returns-clause-refused
returns-clause-refused g c =
    let calc = g.B.Bench.calc c.self.inside.bench in
    subst (λ (p : Standing). IfSome c.change.result (λ _. c.change.new.self.standing ≡ p))
    (ap (λ (z : Pricing g.row.P.Denot g.row.B.Denot g.row.L.Denot). z.running.standing) c.self.view_is)
    (refused_stays calc c.self.inside.session c.change.new.self c.args.command.now c.change.result c.change.ensures.refusal
    (c.change.ensures.turns calc))
