use Rattle.std.proofs.Common.{◌∙◌, ap}
use Rattle.std.proofs.lemmas.Bool.{false≢true}
use Rattle.session_model.specs.Course.{Running}
use Rattle.session_model.specs.Standing.{Standing}
use Rattle.session_core.proofs.Priced.{ask_names, ask_done, ask_broken}
use Rattle.session_rounds.proofs.Asking.{fits_asked}
use Rattle.session_rounds.proofs.session.WatchedSession.ask.Goals as goal

pub invariant_of-session : goal.invariant_of-session
invariant_of-session g c =
    ask_names (g.B.Bench.calc c.args.bench.now) c.args.object _ c.ask.new.self (g.B.Bench.count c.args.bench.now)
    (g.B.Bench.count c.ask.new.bench) (g.B.Bench.log c.args.bench.now) (g.B.Bench.log c.ask.new.bench) c.ask.result
    c.ask.ensures.asks c.ask.ensures.stops _ _ c.session.invariant

pub invariant_of-self : goal.invariant_of-self
invariant_of-self g c =
    let r : Running g.row.P.Denot = record { standing = c.self.inside.session; round = c.self.inside.rounds.round; picker = c.self.inside.picker } in (
      fits_asked (g.B.Bench.calc c.args.bench.now) c.args.object r c.self.inside.rounds.nodes _ c.ask.result
          (g.B.Bench.count c.args.bench.now) (g.B.Bench.count c.ask.new.bench) (g.B.Bench.log c.args.bench.now) (g.B.Bench.log c.ask.new.bench)
          c.self.invariant.0
          (ask_done (g.B.Bench.calc c.args.bench.now) c.args.object _ c.ask.new.self (g.B.Bench.count c.args.bench.now)
          (g.B.Bench.count c.ask.new.bench) (g.B.Bench.log c.args.bench.now) (g.B.Bench.log c.ask.new.bench) c.ask.result
          c.ask.ensures.asks c.ask.ensures.stops c.self.inside.session c.session.view_is)
          (ask_broken (g.B.Bench.calc c.args.bench.now) c.args.object _ c.ask.new.self (g.B.Bench.count c.args.bench.now)
          (g.B.Bench.count c.ask.new.bench) (g.B.Bench.log c.args.bench.now) (g.B.Bench.log c.ask.new.bench) c.ask.result
          c.ask.ensures.asks c.ask.ensures.stops c.self.inside.session c.session.view_is),
      (λ on. absurd (false≢true on), λ on. absurd (false≢true on)),
    )

pub returns-clause-prices : goal.returns-clause-prices
returns-clause-prices g c =
    ask_done (g.B.Bench.calc c.args.bench.now) c.args.object _ c.ask.new.self (g.B.Bench.count c.args.bench.now)
    (g.B.Bench.count c.ask.new.bench) (g.B.Bench.log c.args.bench.now) (g.B.Bench.log c.ask.new.bench) c.ask.result
    c.ask.ensures.asks c.ask.ensures.stops c.args.self.now.standing
    (c.session.view_is ∙ ap (λ (z : Running g.row.P.Denot). z.standing) c.self.view_is)

pub returns-clause-stops : goal.returns-clause-stops
returns-clause-stops g c =
    ask_broken (g.B.Bench.calc c.args.bench.now) c.args.object _ c.ask.new.self (g.B.Bench.count c.args.bench.now)
    (g.B.Bench.count c.ask.new.bench) (g.B.Bench.log c.args.bench.now) (g.B.Bench.log c.ask.new.bench) c.ask.result
    c.ask.ensures.asks c.ask.ensures.stops c.args.self.now.standing
    (c.session.view_is ∙ ap (λ (z : Running g.row.P.Denot). z.standing) c.self.view_is)

pub returns-clause-rounds : goal.returns-clause-rounds
returns-clause-rounds g c =
    let p : Standing = record {
      state = c.ask.new.self;
      names = c.session.inside.names;
      of_object = c.session.inside.of_object;
      actions = c.session.inside.actions;
      watching = c.session.inside.watching.items;
      stopped = c.session.inside.stopped;
    } in
    ap (λ (z : Running g.row.P.Denot). let y : Running g.row.P.Denot = record z { standing = p } in y) c.self.view_is
