use Rattle.std.proofs.Common.{◌≡◌, arith, inl, inr, false, None, sym, ◌∙◌, ap, subst}
use Rattle.std.specs.Prelude.{IfOk}
use Rattle.std.proofs.lemmas.Bool.{false≢true}
use Rattle.std.proofs.lemmas.Result.{IfOk-weaker}
use Rattle.desk_terms.specs.declared.asked.Asked.{Asked}
use Rattle.desk_model.specs.State.{State, held_outcome}
use Rattle.object_store.specs.Market.{state_in}
use Rattle.object_store.specs.Slots.{is_now}
use Rattle.ask_walk.specs.Asks.{Asks, Walks}
use Rattle.ask_walk.specs.declared.asking.Books.{Books}
use Rattle.ask_walk.proofs.Answered.{not_held, held_is_asked, asked_thawed, asked_early, asked_stale, walks_ask, state_left, held_idle}
use Rattle.ask_walk.proofs.asking.Books.ask.Goals as goal

pub walk-answer-requires-clause-free : goal.walk-answer-requires-clause-free
walk-answer-requires-clause-free g c =
    let s = state_in c.args.market.now c.args.self.now.store in
    let none = (c.in-Walks.ensures.comes c.args.market.now c.requires.may.whole c.requires.joined).0 in
    subst (λ (b : Books). held_outcome (state_in c.args.market.now b.store) c.args.object ≡ None) (sym c.at_once.ensures.same)
    (not_held s c.args.object (asked_thawed s c.args.object none) (asked_early s c.args.object none))

pub walk-answer-requires-clause-stale : goal.walk-answer-requires-clause-stale
walk-answer-requires-clause-stale g c =
    let none = (c.in-Walks.ensures.comes c.args.market.now c.requires.may.whole c.requires.joined).0 in
    subst (λ (b : Books). is_now b.store.kept c.args.object ≡ false) (sym c.at_once.ensures.same)
    (asked_stale (state_in c.args.market.now c.args.self.now.store) c.args.object none)

pub returns-in-Answers-clause-asks : goal.returns-in-Answers-clause-asks
returns-in-Answers-clause-asks g c =
    let s = state_in c.args.market.now c.args.self.now.store in
    let is = c.in-Answers.ensures.comes c.args.market.now c.requires.may.whole c.requires.joined in
    subst (λ (b : Books). Asks (g.B.Bench.calc c.args.bench.now) c.args.object s (state_in c.args.market.now b.store) c.in-Answers.answer (g.B.Bench.count c.args.bench.now) (g.B.Bench.count c.args.bench.now) (g.B.Bench.log c.args.bench.now) (g.B.Bench.log c.args.bench.now)) (sym c.at_once.ensures.same)
    (held_is_asked (g.B.Bench.calc c.args.bench.now) s c.args.object c.requires.may c.in-Answers.answer (g.B.Bench.count c.args.bench.now) (g.B.Bench.log c.args.bench.now) is)

pub returns-in-Answers-clause-few : goal.returns-in-Answers-clause-few
returns-in-Answers-clause-few g c =
    let s = state_in c.args.market.now c.args.self.now.store in
    let is = c.in-Answers.ensures.comes c.args.market.now c.requires.may.whole c.requires.joined in
    let none = held_idle s c.args.object c.in-Answers.answer is in
    omega (arith, none)

pub returns-in-Walks-clause-asks : goal.returns-in-Walks-clause-asks
returns-in-Walks-clause-asks g c =
    let s = state_in c.args.market.now c.args.self.now.store in
    let comes = c.in-Walks.ensures.comes c.args.market.now c.requires.may.whole c.requires.joined in
    let after = state_left c.args.market.now c.at_once.new.self.store c.walk-answer.new.self.store c.walk-answer.ensures.registry ∙ ap (state_in c.args.market.now) (sym c.clear.ensures.store) in
    IfOk-weaker c.walk-answer.result _ _ (λ (answer : Asked) w. walks_ask (g.B.Bench.calc c.args.bench.now) s c.args.object (state_in c.args.market.now c.clear.new.self.store) c.in-Walks.mark
    (g.B.Bench.count c.args.bench.now) (g.B.Bench.log c.args.bench.now) (g.B.Bench.count c.walk-answer.new.bench) (g.B.Bench.log c.walk-answer.new.bench) c.requires.may.whole.links comes.1 answer w)
    (subst (λ (b : Books). IfOk c.walk-answer.result (λ (answer : Asked). Walks (g.B.Bench.calc c.args.bench.now) c.args.object (state_in c.args.market.now b.store) (state_in c.args.market.now c.clear.new.self.store) c.in-Walks.mark answer (g.B.Bench.count c.args.bench.now) (g.B.Bench.count c.walk-answer.new.bench) (g.B.Bench.log c.args.bench.now) (g.B.Bench.log c.walk-answer.new.bench))) c.at_once.ensures.same
    (subst (λ (t : State). IfOk c.walk-answer.result (λ (answer : Asked). Walks (g.B.Bench.calc c.args.bench.now) c.args.object (state_in c.args.market.now c.at_once.new.self.store) t c.in-Walks.mark answer (g.B.Bench.count c.args.bench.now) (g.B.Bench.count c.walk-answer.new.bench) (g.B.Bench.log c.args.bench.now) (g.B.Bench.log c.walk-answer.new.bench))) after c.walk-answer.ensures.walks))

pub returns-in-Walks-clause-ready : goal.returns-in-Walks-clause-ready
returns-in-Walks-clause-ready g c = λ ready.
    let s = state_in c.args.market.now c.args.self.now.store in
    let none = (c.in-Walks.ensures.comes c.args.market.now c.requires.may.whole c.requires.joined).0 in
    elim ready [
      | inl is_held ↦ absurd (is_held (not_held s c.args.object (asked_thawed s c.args.object none) (asked_early s c.args.object none)))
      | inr current ↦ absurd (false≢true (sym (asked_stale s c.args.object none) ∙ current))
    ]
