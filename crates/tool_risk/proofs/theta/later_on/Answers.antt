use Rattle.std.proofs.Common.{◌≡◌, ◌∙◌, true, ℤ, sym, ap, subst}
use Rattle.std.specs.Prelude.{IfOk}
use Rattle.desk_terms.specs.declared.kind.Wanted.TheVariants.{Member}
use Rattle.desk_model.specs.Effect.{today_set}
use Rattle.desk_model.specs.Links.{serves_as}
use Rattle.desk_model.specs.Market.{Market, kind_at}
use Rattle.desk_model.specs.State.{State}
use Rattle.desk_model.specs.Unheld.{HoldsNothing}
use Rattle.desk_model.proofs.Unheld.{others_hold_nothing}
use Rattle.bump_model.specs.Asking.{Asks}
use Rattle.bump_model.specs.Sides.{worth}
use Rattle.tool_risk.specs.Given.{curves_given}
use Rattle.tool_risk.specs.Theta.{later_asking}
use Rattle.tool_risk.proofs.Days.{day_asks}
use Rattle.tool_risk.proofs.Telling.{today_market, set_back}
use Rattle.tool_risk.proofs.theta.later_on.Goals as goal

pub later_now-later-requires-clause-instrument : goal.later_now-later-requires-clause-instrument
later_now-later-requires-clause-instrument g c =
    subst (λ (m : Market). serves_as (kind_at m c.args.object) Member ≡ true)
    (sym (ap (λ (s : State). s.market) c.set_today.ensures.set ∙ today_market c.args.desk.now c.args.day)) c.requires.instrument

pub later_now-later-requires-clause-unheld : goal.later_now-later-requires-clause-unheld
later_now-later-requires-clause-unheld g c =
    subst (λ (s : State). HoldsNothing s) (sym c.set_today.ensures.set) ((others_hold_nothing c.args.desk.now c.requires.unheld).today c.args.day)

pub returns-clause-amount : goal.returns-clause-amount
returns-clause-amount g c =
    subst (λ (m : Market). IfOk c.later_now-later.result (λ later. later.amount ≡ worth (g.B.Bench.calc c.args.bench.now) m c.args.object))
    (ap (λ (s : State). s.market) c.set_today.ensures.set ∙ today_market c.args.desk.now c.args.day) c.later_now-later.ensures.amount

pub returns-clause-curves : goal.returns-clause-curves
returns-clause-curves g c =
    subst (λ (m : Market). IfOk c.later_now-later.result (λ later. later.curves.items ≡ curves_given (g.B.Bench.calc c.args.bench.now) m c.args.names.now))
    (ap (λ (s : State). s.market) c.set_today.ensures.set ∙ today_market c.args.desk.now c.args.day) c.later_now-later.ensures.curves

pub returns-clause-asks : goal.returns-clause-asks
returns-clause-asks g c =
    day_asks (g.B.Bench.calc c.args.bench.now) c.args.size c.args.object c.later_now-later.result c.args.names.now c.args.day c.args.desk.now c.later_now-later.new.desk c.set_today-2.new.self
    (g.B.Bench.count c.args.bench.now) (g.B.Bench.count c.later_now-later.new.bench) (g.B.Bench.log c.args.bench.now) (g.B.Bench.log c.later_now-later.new.bench)
    (c.set_today-2.ensures.set ∙ ap (λ (day : ℤ). today_set day c.later_now-later.new.desk) c.today-today.ensures)
    (subst (λ (s : State). Asks (later_asking (g.B.Bench.calc c.args.bench.now) c.args.size c.args.object c.args.names.now s) c.later_now-later.result c.later_now-later.new.desk
    (g.B.Bench.count c.args.bench.now) (g.B.Bench.count c.later_now-later.new.bench) (g.B.Bench.log c.args.bench.now) (g.B.Bench.log c.later_now-later.new.bench))
    c.set_today.ensures.set c.later_now-later.ensures.asks)

pub returns-clause-market : goal.returns-clause-market
returns-clause-market g c =
    ap (λ (s : State). s.market) (c.set_today-2.ensures.set ∙ ap (λ (day : ℤ). today_set day c.later_now-later.new.desk) c.today-today.ensures)
    ∙ set_back c.args.desk.now c.later_now-later.new.desk c.args.day (c.later_now-later.ensures.market ∙ ap (λ (s : State). s.market) c.set_today.ensures.set)

pub returns-clause-sound : goal.returns-clause-sound
returns-clause-sound g c = c.set_today-2.ensures.sound (g.B.Bench.calc c.args.bench.now) c.later_now-later.ensures.sound

pub returns-clause-unheld : goal.returns-clause-unheld
returns-clause-unheld g c =
    subst (λ (s : State). HoldsNothing s) (sym c.set_today-2.ensures.set) ((others_hold_nothing c.later_now-later.new.desk c.later_now-later.ensures.unheld).today c.today-today.result)
