use Rattle.std.proofs.Common.{[], subst}
use Rattle.std.proofs.lemmas.Result.{err_from_is_err_and}
use Rattle.desk_terms.specs.Reading.{Calc}
use Rattle.bump_model.specs.Asking.{MadeFront, ladder_asking}
use Rattle.bump_model.proofs.Calls.{Did, front_first}
use Rattle.bump_ladder.proofs.Answered.{front_asks}
use Rattle.tool_risk.specs.Given.{curves_asking}
use Rattle.tool_risk.specs.Theta.{later_asking}
use Rattle.bump_ladder.proofs.Siding.{then_ok, then_front}
use Rattle.tool_risk.proofs.theta.later_now.Goals as goal

pub returns-in_err-amount-clause-asks : goal.returns-in_err-amount-clause-asks
returns-in_err-amount-clause-asks g c =
    let p = err_from_is_err_and c.from_residual.result c.from_residual.ensures.1 in
    let calc : Calc = g.B.Bench.calc c.args.bench.now in
    front_asks (later_asking calc c.args.size c.args.object c.args.names.now c.args.desk.now) c.from_residual.result c.worth_now.new.desk (g.B.Bench.count c.args.bench.now) (g.B.Bench.count c.worth_now.new.bench) (g.B.Bench.log c.args.bench.now) (g.B.Bench.log c.worth_now.new.bench) p.0 p.1
    (front_first (ladder_asking calc c.args.size c.args.object [] c.args.desk.now).calls (curves_asking calc c.args.names.now (ladder_asking calc c.args.size c.args.object [] c.args.desk.now).next).calls
    (g.B.Bench.count c.args.bench.now) (g.B.Bench.count c.worth_now.new.bench) (g.B.Bench.log c.args.bench.now) (g.B.Bench.log c.worth_now.new.bench) c.in_err-amount.ensures.asks)

pub returns-in_err-curves-clause-asks : goal.returns-in_err-curves-clause-asks
returns-in_err-curves-clause-asks g c =
    let p = err_from_is_err_and c.from_residual-in_err-curves.result c.from_residual-in_err-curves.ensures.1 in
    let calc : Calc = g.B.Bench.calc c.args.bench.now in
    front_asks (later_asking calc c.args.size c.args.object c.args.names.now c.args.desk.now) c.from_residual-in_err-curves.result c.curves_given.new.desk (g.B.Bench.count c.args.bench.now) (g.B.Bench.count c.curves_given.new.bench) (g.B.Bench.log c.args.bench.now) (g.B.Bench.log c.curves_given.new.bench) p.0 p.1
    (then_front (ladder_asking calc c.args.size c.args.object [] c.args.desk.now) (curves_asking calc
    c.args.names.now) c.worth_now.new.desk c.curves_given.new.desk
    (g.B.Bench.count c.args.bench.now) (g.B.Bench.count c.worth_now.new.bench) (g.B.Bench.count
    c.curves_given.new.bench) (g.B.Bench.log c.args.bench.now) (g.B.Bench.log c.worth_now.new.bench) (g.B.Bench.log
    c.curves_given.new.bench) c.in_ok-amount.ensures.asks
    (subst (λ (k : Calc). MadeFront (curves_asking k c.args.names.now c.worth_now.new.desk).calls (g.B.Bench.count c.worth_now.new.bench) (g.B.Bench.count c.curves_given.new.bench) (g.B.Bench.log c.worth_now.new.bench) (g.B.Bench.log c.curves_given.new.bench))
    c.worth_now.ensures.same c.in_err-curves.ensures.asks))

pub returns-clause-asks : goal.returns-clause-asks
returns-clause-asks g c =
    let calc : Calc = g.B.Bench.calc c.args.bench.now in
    then_ok (ladder_asking calc c.args.size c.args.object [] c.args.desk.now) (curves_asking calc c.args.names.now)
    c.worth_now.new.desk c.curves_given.new.desk
    (g.B.Bench.count c.args.bench.now) (g.B.Bench.count c.worth_now.new.bench) (g.B.Bench.count
    c.curves_given.new.bench) (g.B.Bench.log c.args.bench.now) (g.B.Bench.log c.worth_now.new.bench) (g.B.Bench.log
    c.curves_given.new.bench) c.in_ok-amount.ensures.asks
    (subst (λ (k : Calc). Did (curves_asking k c.args.names.now c.worth_now.new.desk) c.curves_given.new.desk (g.B.Bench.count c.worth_now.new.bench) (g.B.Bench.count c.curves_given.new.bench) (g.B.Bench.log c.worth_now.new.bench) (g.B.Bench.log c.curves_given.new.bench))
    c.worth_now.ensures.same c.in_ok-curves.ensures.asks)
