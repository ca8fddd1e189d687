use Rattle.std.proofs.Common.{◌≡◌, ◌∙◌, true, sym, ap, subst}
use Rattle.std.specs.Prelude.{is_some, IfSome}
use Rattle.desk_model.specs.State.{State}
use Rattle.desk_model.specs.Sound.{IsSound}
use Rattle.desk_model.specs.Links.{is_lazy_at}
use Rattle.ask_walk.specs.Asks.{ComesTo, held_answer, AnswersIdly}
use Rattle.object_store.specs.Market.{state_in}
use Rattle.ask_walk.proofs.Answered.{answers_where, answers_idly}
use Rattle.lazy_objects.proofs.Ends.{may_ask}
use Rattle.lazy_objects.proofs.desk.Desk.ask_held.Goals as goal
use Rattle.lazy_objects.proofs.desk.Desk.ask_held.Goals.{in-Answers, in-Walks}

held : (c : goal.Joined-at_once) → c.match-at_once.result ≡ held_answer (state_in c.self.inside.market c.self.inside.books.store) c.args.object
held c =
    let comes = c.at_once.ensures.comes c.self.inside.market c.self.invariant.0.whole c.self.invariant.1 in
    elim c.match-at_once.branch [
      | in-Answers w ↦ w.result-is ∙ sym (subst (ComesTo (state_in c.self.inside.market c.self.inside.books.store) c.args.object) w.in-Answers.is comes)
      | in-Walks w ↦ w.result-is ∙ sym (subst (ComesTo (state_in c.self.inside.market c.self.inside.books.store) c.args.object) w.in-Walks.is comes).0
    ]

pub returns-clause-none : goal.returns-clause-none
returns-clause-none c = ap is_some (held c ∙ ap (λ (t : State). held_answer t c.args.object) c.self.view_is) ∙ answers_where c.args.self.now c.args.object

pub returns-clause-asks : goal.returns-clause-asks
returns-clause-asks c = λ calc fits sound.
    let s = state_in c.self.inside.market c.self.inside.books.store in
    let lazy = subst (λ (t : State). is_lazy_at t.market c.args.object ≡ true) (sym c.self.view_is) c.requires.lazy in
    let may = may_ask calc s c.args.object c.self.inside.books.scratch c.self.invariant.0 (subst (IsSound calc) (sym c.self.view_is) sound) lazy fits in
    subst (λ (t : State). IfSome c.match-at_once.result (AnswersIdly calc c.args.object t)) c.self.view_is
    (answers_idly calc s c.args.object may c.match-at_once.result (held c))
