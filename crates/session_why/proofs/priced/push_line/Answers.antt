use Rattle.std.proofs.Common.{◌∙◌, sym, ap, subst, Option}
use Rattle.desk_terms.specs.declared.value.Value.{Value}
use Rattle.desk_terms.specs.Asked.{Shows}
use Rattle.desk_model.specs.Market.{terms_at}
use Rattle.desk_model.specs.State.{State, kept_at}
use Rattle.object_store.specs.Objects.{bare}
use Rattle.std.specs.Prelude.{codes}
use Rattle.session_why.proofs.Lined.{ends, piece_as, priced_written}
use Rattle.session_why.proofs.Told.{lazy_told}
use Rattle.session_why.proofs.priced.push_line.Goals as goal

pub returns : goal.returns
returns c = λ outcome shows.
    let are = sym ((rw c.deref.ensures at c.in-Some.ensures) ∙ ap (λ (t : State). bare (terms_at t.market c.args.object)) c.desk.ensures
    ∙ lazy_told (terms_at c.args.session.now.state.market c.args.object) c.requires) in
    let last = c.last.ensures ∙ ap (λ (t : State). (kept_at t c.args.object).last) c.desk-2.ensures in
    let shown = subst (λ (l : Option Value). Shows c.args.asked.now.cause l outcome) (sym last) shows in
    ends c.extend_from_slice-3.result _ c.push_shown.new.out.items (codes "\n") _ c.extend_from_slice-3.ensures.items
    (priced_written c.args.session.now c.args.object c.in-Some.terms.now c.args.asked.now.mark outcome
    c.args.out.now.items
    c.word_of.result.now _ _ _ _ are c.word_of.ensures c.in_ok-push_head.ensures c.in_ok-extend_from_slice.ensures.items
    (piece_as _ _ _ _ c.in_ok-extend_from_slice-2.ensures.items c.word.ensures)
    (c.in_ok-push_shown.ensures outcome shown))
