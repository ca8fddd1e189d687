use Rattle.std.proofs.lemmas.Result.{err_from_is_err_and}
use Rattle.tool_script.specs.Scenario.{first_of}
use Rattle.tool_script.specs.Basis.{basis_in}
use Rattle.tool_script.specs.Course.{output}
use Rattle.tool_script.proofs.Plays.{first_known}
use Rattle.scenario_grid.proofs.Scenarios.{halts_begun}
use Rattle.scenario_grid.proofs.scenario.played.Goals as goal

pub move_and_ask-requires : goal.move_and_ask-requires
move_and_ask-requires g c =
    let basis = basis_in c.args.market.now c.args.names.now in
    let begins = c.in_ok-session.ensures.begins in
    record {
      going = c.in_ok-session.ensures.going (g.B.Bench.calc c.args.bench.now);
      known = first_known basis c.in_ok-session.session c.args.moves.now begins c.requires.known;
      named = first_known basis c.in_ok-session.session c.args.asks.now begins c.requires.named;
      moves = c.requires.moves;
      asks = c.requires.asks;
    }

pub returns-in_err-session-clause-halts : goal.returns-in_err-session-clause-halts
returns-in_err-session-clause-halts g c =
    let from = c.from_residual in
    let p = err_from_is_err_and from.result from.ensures.1 in
    rw p.1 (halts_begun (g.B.Bench.calc c.args.bench.now) c.args.moves.now c.args.asks.now
    (first_of (basis_in c.args.market.now c.args.names.now))
    (output c.args.lines.now.items (g.B.Bench.count c.args.bench.now) (g.B.Bench.log c.args.bench.now)))
