use Rattle.std.proofs.Common.{◌++◌, ◌∷◌, [], List, Result, ℤ, refl, sym, ◌∙◌, ap}
use Rattle.desk_terms.specs.declared.cause.Cause.{Cause}
use Rattle.desk_model.specs.State.{State}
use Rattle.tool_risk.specs.Dues.{Span, span_in, due_beneath, dues}
use Rattle.tool_risk.proofs.Paying.{dues_next, dues_none}
use Rattle.tool_risk.proofs.dues.paid.Goals as goal

pub loop-number-init : goal.loop-number-init
loop-number-init c = record {
  dues = c.new-dues.ensures.items ∙ sym (dues_none c.args.desk.now.market c.args.object (span_in c.args.span.now));
  same = refl;
}

pub loop-number-preserved : goal.loop-number-preserved
loop-number-preserved c =
    let m = c.args.desk.now.market in
    let o = c.args.object in
    let span : Span = span_in c.args.span.now in
    let n = c.loop-number.number in
    record {
      dues = c.in_ok-push.ensures.items
          ∙ ap (λ (due : Result ℤ Cause). c.loop-number.dues.items ++ due ∷ [])
          (c.in_ok-due.ensures.due
          ∙ ap (λ (s : State). due_beneath s.market o n span c.as_slice.result.now) c.loop-number.invariant.same
          ∙ ap (due_beneath m o n span) (c.as_slice.ensures.value ∙ c.loop-number.invariant.dues))
          ∙ ap (λ (l : List (Result ℤ Cause)). l ++ due_beneath m o n span (dues m o span n) ∷ []) c.loop-number.invariant.dues
          ∙ sym (dues_next m o span n);
      same = c.due_beneath.ensures.same ∙ c.loop-number.invariant.same;
    }
