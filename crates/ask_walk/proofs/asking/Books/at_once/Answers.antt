use Rattle.std.proofs.Common.{sym, ◌∙◌, ap}
use Rattle.std.specs.Prelude.{slice_index_or}
use Rattle.desk_terms.specs.declared.asked.Asked.{Asked}
use Rattle.desk_model.specs.State.{unpriced}
use Rattle.object_store.specs.Market.{state_in}
use Rattle.object_store.specs.Store.{StoreView}
use Rattle.ask_walk.specs.Asks.{lacking}
use Rattle.ask_walk.proofs.Answered.{mark_is, answers_held, answers_current, answers_none}
use Rattle.ask_walk.proofs.asking.Books.at_once.Goals as goal

pub returns-in-Frozen-clause-comes : goal.returns-in-Frozen-clause-comes
returns-in-Frozen-clause-comes c = λ market whole joined.
    answers_held (state_in market c.args.self.now.store) c.args.object c.met-mark.result.0
    (mark_is market c.args.self.now.store c.args.object c.met-mark.result.0 whole joined c.met-mark.ensures.mark) c.in-Frozen.is
    c.last_answer.result (c.last_answer.ensures ∙ ap (λ (v : StoreView). let a : Asked = record {
      cause = lacking c.args.object (slice_index_or v.kept c.args.object unpriced).last;
      mark = c.met-mark.result.0;
      runs = 0;
    } in a) c.met-mark.ensures.same)

pub returns-then-is_current-clause-comes : goal.returns-then-is_current-clause-comes
returns-then-is_current-clause-comes c = λ market whole joined.
    answers_current (state_in market c.args.self.now.store) c.args.object c.met-mark.result.0
    (mark_is market c.args.self.now.store c.args.object c.met-mark.result.0 whole joined c.met-mark.ensures.mark) c.in-Fresh.is
    (sym c.met-mark.ensures.current ∙ c.if-is_current.true)
    c.answered.result c.answered.ensures

pub returns-else-is_current-clause-comes : goal.returns-else-is_current-clause-comes
returns-else-is_current-clause-comes c = λ market whole joined.
    let marks = mark_is market c.args.self.now.store c.args.object c.met-mark.result.0 whole joined c.met-mark.ensures.mark in (
      answers_none (state_in market c.args.self.now.store) c.args.object c.met-mark.result.0 marks c.in-Fresh.is
          (sym c.met-mark.ensures.current ∙ c.if-is_current.false),
      marks,
    )
