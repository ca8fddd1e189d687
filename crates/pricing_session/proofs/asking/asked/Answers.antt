use Rattle.std.proofs.Common.{◌≡◌, ◌∙◌, Ok, sym, ap}
use Rattle.session_model.specs.declared.place.Place.TheVariants.{Priced}
use Rattle.session_model.specs.Resolve.{find}
use Rattle.session_model.specs.Standing.{Standing}
use Rattle.pricing_session.proofs.Asks.{is_asked, ask_turn}
use Rattle.pricing_session.proofs.asking.asked.Goals as goal

pub returns-in-Ok-ask-clause-answers : goal.returns-in-Ok-ask-clause-answers
returns-in-Ok-ask-clause-answers g c =
    let found : find Priced c.args.session.now.standing c.args.name ≡ Ok c.in-Ok.object =
    sym (c.in-Ok.ensures ∙ ap (λ (p : Standing). find Priced p c.args.name) c.deref.ensures) in
    is_asked (g.B.Bench.calc c.args.bench.now) c.args.name c.args.session.now.standing c.ask.new.self.standing c.in-Ok-ask.answer
    (g.B.Bench.count c.args.bench.now) (g.B.Bench.count c.ask.new.bench) (g.B.Bench.log c.args.bench.now) (g.B.Bench.log c.ask.new.bench)
    c.in-Ok.object found c.in-Ok-ask.ensures.prices

pub returns-in-Ok-ask-clause-turns : goal.returns-in-Ok-ask-clause-turns
returns-in-Ok-ask-clause-turns g c =
    let found : find Priced c.args.session.now.standing c.args.name ≡ Ok c.in-Ok.object =
    sym (c.in-Ok.ensures ∙ ap (λ (p : Standing). find Priced p c.args.name) c.deref.ensures) in
    ask_turn (g.B.Bench.calc c.args.bench.now) c.args.name c.in-Ok.object c.args.session.now.standing c.ask.new.self.standing found
    c.in-Ok-ask.ensures.prices.next
