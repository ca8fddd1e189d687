use Rattle.std.proofs.Common.{◌∙◌, Option, sym, ap, subst}
use Rattle.desk_terms.specs.declared.value.Value.{Value}
use Rattle.desk_terms.specs.Asked.{Shows}
use Rattle.session_core.specs.Values.{value_of}
use Rattle.session_model.specs.Course.{Running}
use Rattle.session_model.specs.Standing.{Standing}
use Rattle.pricing_session.proofs.Asks.{is_priced}
use Rattle.pricing_session.proofs.session.BenchSession.price.Goals as goal

pub returns-in-Ok-clause-answers : goal.returns-in-Ok-clause-answers
returns-in-Ok-clause-answers g c =
    is_priced (g.B.Bench.calc c.args.self.now.bench) c.args.name c.args.self.now.running.standing c.ask.new.self.running.standing c.in-Ok.answer
    (g.B.Bench.count c.args.self.now.bench) (g.B.Bench.count c.ask.new.self.bench) (g.B.Bench.log c.args.self.now.bench)
    (g.B.Bench.log c.ask.new.self.bench) c.in-Ok.ensures.answers c.price_of.result
    (λ outcome shows. c.price_of.ensures.price outcome
    (subst (λ (v : Option Value). Shows c.in-Ok.answer.cause v outcome) (sym (c.value.ensures ∙ ap (λ (p : Standing). value_of p c.args.name)
    (c.deref-in-Ok.ensures ∙ ap (λ (r : Running g.row.P.Denot). r.standing) c.deref.ensures))) shows))
