use Rattle.std.proofs.Common.{◌≡◌, ◌++◌, sym, ◌∙◌, subst}
use Rattle.std.proofs.lemmas.Result.{err_from_is_err_and}
use Rattle.desk_terms.specs.Reading.{Calc}
use Rattle.watch_rounds.specs.declared.picker.Order.{Order}
use Rattle.session_rounds.specs.Goes.{Does, Halts}
use Rattle.tool_script.specs.Scenario.{values_of}
use Rattle.tool_script.specs.Course.{course_of, output}
use Rattle.tool_script.specs.Going.{IsGoing}
use Rattle.tool_script.proofs.Plays.{play_does, play_values, play_next, halts_moving, halts_asking, known_then}
use Rattle.tool_script.proofs.Steps.{going_of}
use Rattle.tool_script.proofs.step.move_and_ask.Goals as goal

pub ask_all-requires : goal.ask_all-requires
ask_all-requires g c =
    let calc = g.B.Bench.calc c.args.bench.now in
    let going = c.in_ok-move_all.ensures.going in
    record {
      going = going_of calc _ c.move_all.new.session c.move_all.ensures.same going;
      known = known_then c.args.session.now.standing c.move_all.new.session.standing c.args.asks.now
          c.in_ok-move_all.ensures.names (going.actions ∙ sym c.requires.going.actions) c.requires.named;
      asks = c.requires.asks;
    }

pub returns-clause-out : goal.returns-clause-out
returns-clause-out g c =
    let calc = g.B.Bench.calc c.args.bench.now in
    let first = c.args.session.now in
    let old = output c.args.lines.now.items (g.B.Bench.count c.args.bench.now) (g.B.Bench.log c.args.bench.now) in
    let now = output c.move_all.new.lines.items (g.B.Bench.count c.move_all.new.bench) (g.B.Bench.log c.move_all.new.bench) in
    let later = output c.ask_all.new.lines.items (g.B.Bench.count c.ask_all.new.bench) (g.B.Bench.log c.ask_all.new.bench) in
    play_does calc c.args.moves.now c.args.asks.now first c.move_all.new.session c.ask_all.new.session old now later
    c.in_ok-move_all.ensures.does
    (subst (λ (k : Calc). Does Order (course_of k c.args.asks.now c.move_all.new.session) c.ask_all.new.session now later)
    c.move_all.ensures.same c.in_ok-ask_all.ensures.does)

pub returns-clause-values : goal.returns-clause-values
returns-clause-values g c =
    let calc = g.B.Bench.calc c.args.bench.now in
    let first = c.args.session.now in
    let old = output c.args.lines.now.items (g.B.Bench.count c.args.bench.now) (g.B.Bench.log c.args.bench.now) in
    let now = output c.move_all.new.lines.items (g.B.Bench.count c.move_all.new.bench) (g.B.Bench.log c.move_all.new.bench) in
    play_values calc c.args.moves.now c.args.asks.now first c.move_all.new.session old now c.args.values.now c.ask_all.new.values
    c.in_ok-move_all.ensures.does
    (subst (λ (k : Calc). c.ask_all.new.values ≡ c.args.values.now ++ values_of k c.args.asks.now c.move_all.new.session)
    c.move_all.ensures.same c.in_ok-ask_all.ensures.values)

pub returns-clause-next : goal.returns-clause-next
returns-clause-next g c =
    let calc = g.B.Bench.calc c.args.bench.now in
    let now = output c.move_all.new.lines.items (g.B.Bench.count c.move_all.new.bench) (g.B.Bench.log c.move_all.new.bench) in
    let later = output c.ask_all.new.lines.items (g.B.Bench.count c.ask_all.new.bench) (g.B.Bench.log c.ask_all.new.bench) in
    play_next calc c.args.moves.now c.args.asks.now c.args.session.now c.move_all.new.session c.ask_all.new.session _ now later
    c.in_ok-move_all.ensures.does
    (subst (λ (k : Calc). Does Order (course_of k c.args.asks.now c.move_all.new.session) c.ask_all.new.session now later)
    c.move_all.ensures.same c.in_ok-ask_all.ensures.does)

pub returns-clause-going : goal.returns-clause-going
returns-clause-going g c =
    subst (λ (k : Calc). IsGoing k c.ask_all.new.session) c.move_all.ensures.same c.in_ok-ask_all.ensures.going

pub returns-in_err-move_all-clause-halts : goal.returns-in_err-move_all-clause-halts
returns-in_err-move_all-clause-halts g c =
    let calc = g.B.Bench.calc c.args.bench.now in
    let first = c.args.session.now in
    let old = output c.args.lines.now.items (g.B.Bench.count c.args.bench.now) (g.B.Bench.log c.args.bench.now) in
    let now = output c.move_all.new.lines.items (g.B.Bench.count c.move_all.new.bench) (g.B.Bench.log c.move_all.new.bench) in
    let from = c.from_residual in
    let p = err_from_is_err_and from.result from.ensures.1 in
    rw p.1 (halts_moving calc c.args.moves.now c.args.asks.now first old now
    c.in_err-move_all.ensures.halts)

pub returns-in_err-ask_all-clause-halts : goal.returns-in_err-ask_all-clause-halts
returns-in_err-ask_all-clause-halts g c =
    let calc = g.B.Bench.calc c.args.bench.now in
    let first = c.args.session.now in
    let old = output c.args.lines.now.items (g.B.Bench.count c.args.bench.now) (g.B.Bench.log c.args.bench.now) in
    let now = output c.move_all.new.lines.items (g.B.Bench.count c.move_all.new.bench) (g.B.Bench.log c.move_all.new.bench) in
    let later = output c.ask_all.new.lines.items (g.B.Bench.count c.ask_all.new.bench) (g.B.Bench.log c.ask_all.new.bench) in
    let from = c.from_residual-in_err-ask_all in
    let p = err_from_is_err_and from.result from.ensures.1 in
    rw p.1 (halts_asking calc c.args.moves.now c.args.asks.now first c.move_all.new.session old now later
    c.in_ok-move_all.ensures.does
    (subst (λ (k : Calc). Halts Order (course_of k c.args.asks.now c.move_all.new.session) now later)
    c.move_all.ensures.same c.in_err-ask_all.ensures.halts))
