use Rattle.std.proofs.Common.{◌∙◌, None, Some, sym, ap, subst}
use Rattle.std.proofs.lemmas.Result.{err_from_is_err_and}
use Rattle.desk_terms.specs.Reading.{Calc}
use Rattle.bump_model.specs.Asking.{Asking, MadeFront}
use Rattle.bump_model.proofs.Calls.{Did, made_none}
use Rattle.bump_ladder.proofs.Answered.{front_asks}
use Rattle.tool_risk.specs.Theta.{asking_on, theta_asking}
use Rattle.tool_risk.proofs.Days.{asking_tomorrow}
use Rattle.tool_risk.proofs.theta.theta_of.Goals as goal

pub returns-in_err-gain_by-in-Some-clause-asks : goal.returns-in_err-gain_by-in-Some-clause-asks
returns-in_err-gain_by-in-Some-clause-asks g c =
    let calc : Calc = g.B.Bench.calc c.args.bench.now in
    let p = err_from_is_err_and c.from_residual-in_err-gain_by-in-Some.result c.from_residual-in_err-gain_by-in-Some.ensures.1 in
    front_asks (theta_asking calc c.args.size c.args.object c.args.desk.now) c.from_residual-in_err-gain_by-in-Some.result c.gain_by.new.desk
    (g.B.Bench.count c.args.bench.now) (g.B.Bench.count c.gain_by.new.bench) (g.B.Bench.log c.args.bench.now) (g.B.Bench.log c.gain_by.new.bench) p.0 p.1
    (subst (λ (a : Asking). MadeFront a.calls (g.B.Bench.count c.args.bench.now) (g.B.Bench.count c.gain_by.new.bench) (g.B.Bench.log c.args.bench.now) (g.B.Bench.log c.gain_by.new.bench))
    (ap (asking_on calc c.args.size c.args.object (Some c.in-Some.day)) c.tomorrow.ensures.same
    ∙ sym (asking_tomorrow calc c.args.size c.args.object c.args.desk.now (Some c.in-Some.day) (sym c.in-Some.is ∙ c.in_ok-tomorrow.ensures.day)))
    c.in_err-gain_by-in-Some.ensures.asks)

pub returns-in-None-clause-asks : goal.returns-in-None-clause-asks
returns-in-None-clause-asks g c =
    let calc : Calc = g.B.Bench.calc c.args.bench.now in
    subst (λ (a : Asking). Did a c.tomorrow.new.desk (g.B.Bench.count c.args.bench.now) (g.B.Bench.count c.args.bench.now) (g.B.Bench.log c.args.bench.now) (g.B.Bench.log c.args.bench.now))
    (sym (asking_tomorrow calc c.args.size c.args.object c.args.desk.now None (sym c.in-None.is ∙ c.in_ok-tomorrow.ensures.day)))
    (c.tomorrow.ensures.same, made_none (g.B.Bench.count c.args.bench.now) (g.B.Bench.log c.args.bench.now))

pub returns-in_ok-gain_by-in-Some-clause-asks : goal.returns-in_ok-gain_by-in-Some-clause-asks
returns-in_ok-gain_by-in-Some-clause-asks g c =
    let calc : Calc = g.B.Bench.calc c.args.bench.now in
    subst (λ (a : Asking). Did a c.gain_by.new.desk (g.B.Bench.count c.args.bench.now) (g.B.Bench.count c.gain_by.new.bench) (g.B.Bench.log c.args.bench.now) (g.B.Bench.log c.gain_by.new.bench))
    (ap (asking_on calc c.args.size c.args.object (Some c.in-Some.day)) c.tomorrow.ensures.same
    ∙ sym (asking_tomorrow calc c.args.size c.args.object c.args.desk.now (Some c.in-Some.day) (sym c.in-Some.is ∙ c.in_ok-tomorrow.ensures.day)))
    c.in_ok-gain_by-in-Some.ensures.asks
