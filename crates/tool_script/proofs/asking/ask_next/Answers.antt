use Rattle.std.proofs.Common.{◌≡◌, ◌++◌, ◌∷◌, [], ℕ, ℤ, Option, sym, ◌∙◌, ap, subst}
use Rattle.std.specs.Prelude.{OnOk}
use Rattle.desk_model.specs.Links.{IsWhole}
use Rattle.watch_rounds.specs.declared.picker.Order.{Order}
use Rattle.session_model.specs.Course.{Running, round_of}
use Rattle.session_model.specs.Standing.{Standing}
use Rattle.session_rounds.proofs.Going.{does_halts}
use Rattle.tool_script.specs.Scenario.{ordered}
use Rattle.tool_script.specs.Course.{output}
use Rattle.tool_script.specs.Kept.{money_asked}
use Rattle.tool_script.proofs.Asks.{ask_money}
use Rattle.tool_script.proofs.Steps.{on_err}
use Rattle.tool_script.proofs.asking.ask_next.Goals as goal

pub returns-clause-halts : goal.returns-clause-halts
returns-clause-halts g c =
    on_err c.push.result
    (does_halts (round_of (ordered (g.B.Bench.calc c.args.bench.now)) c.args.session.now c.args.ask.now) c.step.new.self
    (output c.args.lines.now.items (g.B.Bench.count c.args.bench.now) (g.B.Bench.log c.args.bench.now))
    (output c.step.new.lines.items (g.B.Bench.count c.step.new.bench) (g.B.Bench.log c.step.new.bench))
    c.in_ok-step.ensures.plays)

pub returns-clause-values : goal.returns-clause-values
returns-clause-values g c =
    let calc = g.B.Bench.calc c.args.bench.now in
    let round = round_of (ordered calc) c.args.session.now c.args.ask.now in
    let whole : IsWhole c.args.session.now.standing.state =
    subst IsWhole (c.deref-2.ensures ∙ ap (λ (p : Standing). p.state) c.deref.ensures) c.shape.ensures.whole in
    let money = c.money_asked-money.ensures
    ∙ ap (λ (p : Standing). money_asked p c.asked_name.result)
    (c.session.ensures ∙ ap (λ (r : Running Order). r.standing) c.in_ok-step.ensures.plays.next)
    ∙ ap (λ (n : Option ℕ). money_asked round.next.standing n) c.asked_name.ensures
    ∙ sym (ask_money calc c.args.session.now c.args.ask.now c.requires.ask whole c.requires.going) in
    subst (λ (v : Option ℤ). OnOk c.push.result (c.push.new.self ≡ c.args.values.now ++ v ∷ [])) money c.push.ensures.ok
