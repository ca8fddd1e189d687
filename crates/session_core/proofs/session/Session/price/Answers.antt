use Rattle.std.proofs.Common.{ℕ, List, refl}
use Rattle.desk_terms.specs.declared.asked.Mark.{Mark}
use Rattle.desk_terms.specs.Reading.{Calc}
use Rattle.session_model.specs.declared.act.Act.TheVariants as act
use Rattle.session_model.specs.Pricing.{Pricing, pricing_of, priced_line}
use Rattle.session_model.specs.Standing.{Standing}
use Rattle.session_model.specs.Turn.{step, effect_of}
use Rattle.session_core.proofs.Turns.{priced_does, priced_stops, priced_unwritten, priced_line_some, on_err, on_ok, on_err_of}
use Rattle.session_core.proofs.session.Session.price.Goals as goal

pub returns-in_err-asked-clause-stops : goal.returns-in_err-asked-clause-stops
unfolding effect_of
returns-in_err-asked-clause-stops g c =
    let calc : Calc = g.B.Bench.calc c.args.bench.now in
    let p : Standing = c.args.self.now in
    let w : Pricing = pricing_of calc c.args.object p.state c.args.how.now in
    on_err c.from_residual.result
    (priced_stops w c.args.object (effect_of calc p (act.Price c.args.name c.args.object c.args.how.now)) p
    c.answer.new.self c.args.lines.now.items c.args.lines.now.items
    (g.B.Bench.count c.args.bench.now) (g.B.Bench.count c.answer.new.bench)
    (g.B.Bench.log c.args.bench.now) (g.B.Bench.log c.answer.new.bench) refl
    c.in_err-asked.ensures.stops refl)

pub report-requires : goal.report-requires
report-requires g c =
    let calc : Calc = g.B.Bench.calc c.args.bench.now in
    let p : Standing = c.args.self.now in
    record { given = ((pricing_of calc c.args.object p.state c.args.how.now).outcome, c.in_ok-asked.ensures.prices.shown) }

pub returns-clause-steps : goal.returns-clause-steps
unfolding effect_of step
returns-clause-steps g c =
    let calc : Calc = g.B.Bench.calc c.args.bench.now in
    let p : Standing = c.args.self.now in
    let w : Pricing = pricing_of calc c.args.object p.state c.args.how.now in
    on_ok c.report.result
    (priced_does w c.args.object (effect_of calc p (act.Price c.args.name c.args.object c.args.how.now)) p
    c.answer.new.self c.args.lines.now.items c.report.new.lines.items
    (g.B.Bench.count c.args.bench.now) (g.B.Bench.count c.answer.new.bench)
    (g.B.Bench.log c.args.bench.now) (g.B.Bench.log c.answer.new.bench) refl
    (λ (names : List (List ℕ)) (of_object : List ℕ) (mark : Mark) (n : ℕ).
    priced_line names of_object c.args.name c.args.object c.args.how.now w.outcome mark n)
    c.in_ok-asked.asked c.in_ok-asked.ensures.prices refl refl)
    (c.report.ensures.ok w.outcome c.in_ok-asked.ensures.prices.shown)

pub returns-clause-stops : goal.returns-clause-stops
unfolding effect_of step
returns-clause-stops g c =
    let calc : Calc = g.B.Bench.calc c.args.bench.now in
    let p : Standing = c.args.self.now in
    let w : Pricing = pricing_of calc c.args.object p.state c.args.how.now in
    on_err_of c.report.result
    (priced_unwritten w c.args.object (effect_of calc p (act.Price c.args.name c.args.object c.args.how.now)) p
    c.answer.new.self c.args.lines.now.items c.report.new.lines.items
    (g.B.Bench.count c.args.bench.now) (g.B.Bench.count c.answer.new.bench)
    (g.B.Bench.log c.args.bench.now) (g.B.Bench.log c.answer.new.bench) refl
    c.in_ok-asked.asked c.in_ok-asked.ensures.prices refl (priced_line_some _ _ _ _ _ _ _ _))
    c.report.ensures.err
