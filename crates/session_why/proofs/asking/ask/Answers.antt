use Rattle.session_why.proofs.Counted.{ask_asks, asks_answer, asks_stay}
use Rattle.session_why.proofs.asking.ask.Goals as goal

pub returns-clause-answer : goal.returns-clause-answer
returns-clause-answer g c =
    asks_answer (g.B.Bench.calc c.args.bench.now) c.args.object c.args.session.now.standing
    c.ask-asked.new.self.standing c.ask-asked.result
    (g.B.Bench.count c.args.bench.now) (g.B.Bench.count c.ask-asked.new.bench) (g.B.Bench.log c.args.bench.now)
    (g.B.Bench.log c.ask-asked.new.bench)
    c.ask-asked.ensures.prices

pub returns-clause-asks : goal.returns-clause-asks
returns-clause-asks g c =
    ask_asks (g.B.Bench.calc c.args.bench.now) c.args.object c.args.session.now.standing c.ask-asked.new.self.standing
    c.ask-asked.result
    (g.B.Bench.count c.args.bench.now) (g.B.Bench.count c.ask-asked.new.bench) (g.B.Bench.log c.args.bench.now)
    (g.B.Bench.log c.ask-asked.new.bench)
    c.ask-asked.ensures.prices c.ask-asked.ensures.stops

pub returns-clause-market : goal.returns-clause-market
returns-clause-market g c =
    asks_stay (g.B.Bench.calc c.args.bench.now) c.args.object c.args.session.now.standing c.ask-asked.new.self.standing
    c.ask-asked.result
    (g.B.Bench.count c.args.bench.now) (g.B.Bench.count c.ask-asked.new.bench) (g.B.Bench.log c.args.bench.now)
    (g.B.Bench.log c.ask-asked.new.bench)
    c.ask-asked.ensures.prices c.ask-asked.ensures.stops
