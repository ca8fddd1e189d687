use Rattle.std.proofs.Common.{inl, inr}
use Rattle.session_core.proofs.Priced.{ask_names, ask_broken}
use Rattle.session_core.proofs.session.Session.answer.Goals as goal

pub invariant_of-self : goal.invariant_of-self
invariant_of-self g c =
    ask_names (g.B.Bench.calc c.args.bench.now) c.args.object _ c.ask.new.self (g.B.Bench.count c.args.bench.now)
    (g.B.Bench.count c.ask.new.bench) (g.B.Bench.log c.args.bench.now) (g.B.Bench.log c.ask.new.bench) c.ask.result
    c.ask.ensures.asks c.ask.ensures.stops c.self.inside.of_name.items c.self.inside.live c.self.invariant

pub returns-in-Ask-clause-stops : goal.returns-in-Ask-clause-stops
returns-in-Ask-clause-stops g c =
    let stops = ask_broken (g.B.Bench.calc c.args.bench.now) c.args.object _ c.ask.new.self (g.B.Bench.count c.args.bench.now)
    (g.B.Bench.count c.ask.new.bench) (g.B.Bench.log c.args.bench.now) (g.B.Bench.log c.ask.new.bench) c.ask.result
    c.ask.ensures.asks c.ask.ensures.stops c.args.self.now c.self.view_is in
    elim c.in-Ask.is [
      | inl is ↦ rw is stops
      | inr is ↦ rw is.1 stops
    ]
