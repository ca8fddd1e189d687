use Rattle.std.specs.Prelude.{option_copied}
use Rattle.std.proofs.lemmas.Result.{err_from_is_err_and}
use Rattle.desk_model.specs.Fresh.{fresh}
use Rattle.bump_model.specs.Asking.{ask_of}
use Rattle.bump_ladder.proofs.Answered.{answered_asks, answered_market, answered_unheld, answered_shown, stopped_asks, stopped_market, stopped_unheld, asks_any}
use Rattle.bump_ladder.proofs.curves.curve_at.Goals as goal

pub curve_of-requires : goal.curve_of-requires
curve_of-requires g c = record {
  given = (
    fresh (g.B.Bench.calc c.args.bench.now) c.args.desk.now.market c.args.object,
    answered_shown c.in_ok-asked.ensures.asks c.requires.unheld (option_copied c.last.result) c.last.ensures,
  );
}

pub returns-clause-value : goal.returns-clause-value
returns-clause-value g c =
    c.curve_of.ensures (fresh (g.B.Bench.calc c.args.bench.now) c.args.desk.now.market c.args.object)
    (answered_shown c.in_ok-asked.ensures.asks c.requires.unheld (option_copied c.last.result) c.last.ensures)

pub returns-clause-asks : goal.returns-clause-asks
returns-clause-asks g c =
    asks_any (ask_of (g.B.Bench.calc c.args.bench.now) c.args.object c.args.desk.now) c.curve_of.result c.ask.new.self
    (g.B.Bench.count c.args.bench.now) (g.B.Bench.count c.ask.new.bench)
    (g.B.Bench.log c.args.bench.now) (g.B.Bench.log c.ask.new.bench) (answered_asks c.in_ok-asked.ensures.asks)

pub returns-clause-market : goal.returns-clause-market
returns-clause-market g c = answered_market c.in_ok-asked.ensures.asks

pub returns-clause-unheld : goal.returns-clause-unheld
returns-clause-unheld g c = answered_unheld c.in_ok-asked.ensures.asks c.requires.unheld

pub returns-in_err-asked-clause-asks : goal.returns-in_err-asked-clause-asks
returns-in_err-asked-clause-asks g c =
    let p = err_from_is_err_and c.from_residual.result c.from_residual.ensures.1 in
    stopped_asks c.in_err-asked.ensures.stops c.from_residual.result p.0 p.1

pub returns-in_err-asked-clause-market : goal.returns-in_err-asked-clause-market
returns-in_err-asked-clause-market g c = stopped_market c.in_err-asked.ensures.stops

pub returns-in_err-asked-clause-unheld : goal.returns-in_err-asked-clause-unheld
returns-in_err-asked-clause-unheld g c = stopped_unheld c.in_err-asked.ensures.stops c.requires.unheld
