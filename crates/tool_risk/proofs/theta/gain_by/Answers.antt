use Rattle.std.proofs.Common.{◌≡◌, ◌∙◌, ℕ, List, sym, ap, subst}
use Rattle.std.proofs.lemmas.Result.{err_from_is_err_and}
use Rattle.desk_terms.specs.Reading.{Calc}
use Rattle.desk_model.specs.State.{State}
use Rattle.bump_model.specs.Asking.{Asking, MadeFront, then_ask}
use Rattle.bump_model.proofs.Calls.{Did, front_first}
use Rattle.bump_ladder.proofs.Answered.{asks_any, front_asks}
use Rattle.tool_risk.specs.Given.{naming_in, curves_asking}
use Rattle.tool_risk.specs.Theta.{day_asking}
use Rattle.bump_ladder.proofs.Siding.{then_ok, then_front}
use Rattle.tool_risk.proofs.theta.gain_by.Goals as goal

pub returns-in_err-now-clause-asks : goal.returns-in_err-now-clause-asks
returns-in_err-now-clause-asks g c =
    let calc : Calc = g.B.Bench.calc c.args.bench.now in
    let names = naming_in c.args.desk.now.market c.args.object in
    let p = err_from_is_err_and c.from_residual-in_err-now.result c.from_residual-in_err-now.ensures.1 in
    let same : curves_asking calc c.items.result.now c.naming_beneath.new.desk ≡ curves_asking calc names c.args.desk.now =
    ap (λ (l : List ℕ). curves_asking calc l c.naming_beneath.new.desk) (c.items.ensures ∙ c.in_ok-names.ensures.found) ∙ ap (curves_asking calc names) c.naming_beneath.ensures.same in
    front_asks (then_ask (curves_asking calc names c.args.desk.now) (day_asking calc c.args.size c.args.object names c.args.day)) c.from_residual-in_err-now.result c.curves_given.new.desk
    (g.B.Bench.count c.args.bench.now) (g.B.Bench.count c.curves_given.new.bench) (g.B.Bench.log c.args.bench.now) (g.B.Bench.log c.curves_given.new.bench) p.0 p.1
    (front_first (curves_asking calc names c.args.desk.now).calls (day_asking calc c.args.size c.args.object names c.args.day (curves_asking calc names c.args.desk.now).next).calls
    (g.B.Bench.count c.args.bench.now) (g.B.Bench.count c.curves_given.new.bench) (g.B.Bench.log c.args.bench.now) (g.B.Bench.log c.curves_given.new.bench)
    (subst (λ (a : Asking). MadeFront a.calls (g.B.Bench.count c.args.bench.now) (g.B.Bench.count c.curves_given.new.bench) (g.B.Bench.log c.args.bench.now) (g.B.Bench.log c.curves_given.new.bench))
    same c.in_err-now.ensures.asks))

pub returns-in_err-later-clause-asks : goal.returns-in_err-later-clause-asks
returns-in_err-later-clause-asks g c =
    let calc : Calc = g.B.Bench.calc c.args.bench.now in
    let names = naming_in c.args.desk.now.market c.args.object in
    let t : State = c.curves_given.new.desk in
    let p = err_from_is_err_and c.from_residual-in_err-later.result c.from_residual-in_err-later.ensures.1 in
    let same : curves_asking calc c.items.result.now c.naming_beneath.new.desk ≡ curves_asking calc names c.args.desk.now =
    ap (λ (l : List ℕ). curves_asking calc l c.naming_beneath.new.desk) (c.items.ensures ∙ c.in_ok-names.ensures.found) ∙ ap (curves_asking calc names) c.naming_beneath.ensures.same in
    let then_same : day_asking (g.B.Bench.calc c.curves_given.new.bench) c.args.size c.args.object c.items-2.result.now c.args.day t ≡ day_asking calc c.args.size c.args.object names c.args.day t =
    ap (λ (k : Calc). day_asking k c.args.size c.args.object c.items-2.result.now c.args.day t) c.curves_given.ensures.same
    ∙ ap (λ (l : List ℕ). day_asking calc c.args.size c.args.object l c.args.day t) (c.items-2.ensures ∙ c.in_ok-names.ensures.found) in
    front_asks (then_ask (curves_asking calc names c.args.desk.now) (day_asking calc c.args.size c.args.object names c.args.day)) c.from_residual-in_err-later.result c.later_on.new.desk
    (g.B.Bench.count c.args.bench.now) (g.B.Bench.count c.later_on.new.bench) (g.B.Bench.log c.args.bench.now) (g.B.Bench.log c.later_on.new.bench) p.0 p.1
    (then_front (curves_asking calc names c.args.desk.now) (day_asking calc c.args.size c.args.object names
    c.args.day) t c.later_on.new.desk
    (g.B.Bench.count c.args.bench.now) (g.B.Bench.count c.curves_given.new.bench) (g.B.Bench.count
    c.later_on.new.bench) (g.B.Bench.log c.args.bench.now) (g.B.Bench.log c.curves_given.new.bench) (g.B.Bench.log
    c.later_on.new.bench)
    (subst (λ (a : Asking). Did a t (g.B.Bench.count c.args.bench.now) (g.B.Bench.count c.curves_given.new.bench) (g.B.Bench.log c.args.bench.now) (g.B.Bench.log c.curves_given.new.bench)) same c.in_ok-now.ensures.asks)
    (subst (λ (a : Asking). MadeFront a.calls (g.B.Bench.count c.curves_given.new.bench) (g.B.Bench.count c.later_on.new.bench) (g.B.Bench.log c.curves_given.new.bench) (g.B.Bench.log c.later_on.new.bench))
    then_same c.in_err-later.ensures.asks))

pub returns-clause-asks : goal.returns-clause-asks
returns-clause-asks g c =
    let calc : Calc = g.B.Bench.calc c.args.bench.now in
    let names = naming_in c.args.desk.now.market c.args.object in
    let t : State = c.curves_given.new.desk in
    let same : curves_asking calc c.items.result.now c.naming_beneath.new.desk ≡ curves_asking calc names c.args.desk.now =
    ap (λ (l : List ℕ). curves_asking calc l c.naming_beneath.new.desk) (c.items.ensures ∙ c.in_ok-names.ensures.found) ∙ ap (curves_asking calc names) c.naming_beneath.ensures.same in
    let then_same : day_asking (g.B.Bench.calc c.curves_given.new.bench) c.args.size c.args.object c.items-2.result.now c.args.day t ≡ day_asking calc c.args.size c.args.object names c.args.day t =
    ap (λ (k : Calc). day_asking k c.args.size c.args.object c.items-2.result.now c.args.day t) c.curves_given.ensures.same
    ∙ ap (λ (l : List ℕ). day_asking calc c.args.size c.args.object l c.args.day t) (c.items-2.ensures ∙ c.in_ok-names.ensures.found) in
    subst (λ (u : State). Did (then_ask (curves_asking calc names c.args.desk.now) (day_asking calc c.args.size c.args.object names c.args.day)) u
    (g.B.Bench.count c.args.bench.now) (g.B.Bench.count c.later_on.new.bench) (g.B.Bench.log c.args.bench.now) (g.B.Bench.log c.later_on.new.bench)) (sym c.paid.ensures.same)
    (then_ok (curves_asking calc names c.args.desk.now) (day_asking calc c.args.size c.args.object names c.args.day) t
    c.later_on.new.desk
    (g.B.Bench.count c.args.bench.now) (g.B.Bench.count c.curves_given.new.bench) (g.B.Bench.count
    c.later_on.new.bench) (g.B.Bench.log c.args.bench.now) (g.B.Bench.log c.curves_given.new.bench) (g.B.Bench.log
    c.later_on.new.bench)
    (subst (λ (a : Asking). Did a t (g.B.Bench.count c.args.bench.now) (g.B.Bench.count c.curves_given.new.bench) (g.B.Bench.log c.args.bench.now) (g.B.Bench.log c.curves_given.new.bench)) same c.in_ok-now.ensures.asks)
    (subst (λ (a : Asking). Did a c.later_on.new.desk (g.B.Bench.count c.curves_given.new.bench) (g.B.Bench.count c.later_on.new.bench) (g.B.Bench.log c.curves_given.new.bench) (g.B.Bench.log c.later_on.new.bench))
    then_same c.in_ok-later.ensures.asks))

pub returns-in_err-due-clause-asks : goal.returns-in_err-due-clause-asks
returns-in_err-due-clause-asks g c =
    let calc : Calc = g.B.Bench.calc c.args.bench.now in
    let names = naming_in c.args.desk.now.market c.args.object in
    let t : State = c.curves_given.new.desk in
    let same : curves_asking calc c.items.result.now c.naming_beneath.new.desk ≡ curves_asking calc names c.args.desk.now =
    ap (λ (l : List ℕ). curves_asking calc l c.naming_beneath.new.desk) (c.items.ensures ∙ c.in_ok-names.ensures.found) ∙ ap (curves_asking calc names) c.naming_beneath.ensures.same in
    let then_same : day_asking (g.B.Bench.calc c.curves_given.new.bench) c.args.size c.args.object c.items-2.result.now c.args.day t ≡ day_asking calc c.args.size c.args.object names c.args.day t =
    ap (λ (k : Calc). day_asking k c.args.size c.args.object c.items-2.result.now c.args.day t) c.curves_given.ensures.same
    ∙ ap (λ (l : List ℕ). day_asking calc c.args.size c.args.object l c.args.day t) (c.items-2.ensures ∙ c.in_ok-names.ensures.found) in
    asks_any (then_ask (curves_asking calc names c.args.desk.now) (day_asking calc c.args.size c.args.object names c.args.day)) c.from_residual-in_err-due.result c.paid.new.desk
    (g.B.Bench.count c.args.bench.now) (g.B.Bench.count c.later_on.new.bench) (g.B.Bench.log c.args.bench.now) (g.B.Bench.log c.later_on.new.bench)
    (subst (λ (u : State). Did (then_ask (curves_asking calc names c.args.desk.now) (day_asking calc c.args.size c.args.object names c.args.day)) u
    (g.B.Bench.count c.args.bench.now) (g.B.Bench.count c.later_on.new.bench) (g.B.Bench.log c.args.bench.now) (g.B.Bench.log c.later_on.new.bench)) (sym c.paid.ensures.same)
    (then_ok (curves_asking calc names c.args.desk.now) (day_asking calc c.args.size c.args.object names c.args.day) t
    c.later_on.new.desk
    (g.B.Bench.count c.args.bench.now) (g.B.Bench.count c.curves_given.new.bench) (g.B.Bench.count
    c.later_on.new.bench) (g.B.Bench.log c.args.bench.now) (g.B.Bench.log c.curves_given.new.bench) (g.B.Bench.log
    c.later_on.new.bench)
    (subst (λ (a : Asking). Did a t (g.B.Bench.count c.args.bench.now) (g.B.Bench.count c.curves_given.new.bench) (g.B.Bench.log c.args.bench.now) (g.B.Bench.log c.curves_given.new.bench)) same c.in_ok-now.ensures.asks)
    (subst (λ (a : Asking). Did a c.later_on.new.desk (g.B.Bench.count c.curves_given.new.bench) (g.B.Bench.count c.later_on.new.bench) (g.B.Bench.log c.curves_given.new.bench) (g.B.Bench.log c.later_on.new.bench))
    then_same c.in_ok-later.ensures.asks)))
