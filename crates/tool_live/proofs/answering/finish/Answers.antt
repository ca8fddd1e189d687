use Rattle.std.proofs.Common.{◌∙◌, sym, subst, ℕ, List, [], ◌++◌}
use Rattle.tool_live.specs.Answers.{PutsFront}
use Rattle.tool_live.specs.Hearing.{IsOpen}
use Rattle.tool_live.proofs.FeedEnded.{ok_then, err_then, err_with, is_more, is_nil, ended_line, Ends, ends_none, ends_line, fails_end}
use Rattle.tool_live.proofs.answering.finish.Goals.{then-not-is_empty+in_ok-answer_alone, else-not-is_empty}
use Rattle.tool_live.proofs.answering.finish.Goals as goal

pub returns-in_err-answer_alone-clause-err : goal.returns-in_err-answer_alone-clause-err
returns-in_err-answer_alone-clause-err g c =
    err_with c.from_residual.result (λ part begun.
    let line = ended_line (g.A.Answerer.told c.args.answerer.now) (g.A.Answerer.called c.args.answerer.now) part c.args.line.now begun
    (is_more _ (sym c.is_empty.ensures ∙ c.if-not-is_empty.true)) c.answer_alone.ensures.long in
    subst (λ (l : List ℕ). PutsFront (c.args.answers.now.items ++ l) (g.K.Sink.bytes c.args.out.now) (g.K.Sink.bytes c.answer_alone.new.out))
    line.0 (c.in_err-answer_alone.ensures.err []))

pub returns-clause-ok : goal.returns-clause-ok
returns-clause-ok g c =
    let j = c.if-not-is_empty in
    let told = g.A.Answerer.told in
    let called = g.A.Answerer.called in
    let ends : (part : List ℕ) → IsOpen part c.args.line.now → Ends part (told c.args.answerer.now) (told j.answerer) (called c.args.answerer.now)
    (called j.answerer) c.args.answers.now.items j.answers.items (g.K.Sink.bytes c.args.out.now) (g.K.Sink.bytes j.out) =
    elim j.branch [
      | then-not-is_empty+in_ok-answer_alone w ↦ rw (w.answerer-is, w.answers-is, w.out-is) (λ part begun.
          ends_line _ _ _ _ part c.args.line.now _ _ _ _ begun (is_more _ (sym c.is_empty.ensures ∙ w.if-not-is_empty.true)) w.answer_alone.ensures.long
          (w.in_ok-answer_alone.ensures.ok) w.answer_alone.ensures.grows)
      | else-not-is_empty w ↦ rw (w.answerer-is, w.answers-is, w.out-is) (λ part begun.
          ends_none _ _ part c.args.line.now _ _ begun (is_nil c.args.line.now (sym c.is_empty.ensures ∙ w.if-not-is_empty.false)))
    ] in
    ok_then c.close.result c.close.ensures.ok (λ ok part begun. (ok.0 ∙ (ends part begun).bytes, ok.1 ∙ (ends part begun).calls))

pub returns-clause-err : goal.returns-clause-err
returns-clause-err g c =
    let j = c.if-not-is_empty in
    let told = g.A.Answerer.told in
    let called = g.A.Answerer.called in
    let ends : (part : List ℕ) → IsOpen part c.args.line.now → Ends part (told c.args.answerer.now) (told j.answerer) (called c.args.answerer.now)
    (called j.answerer) c.args.answers.now.items j.answers.items (g.K.Sink.bytes c.args.out.now) (g.K.Sink.bytes j.out) =
    elim j.branch [
      | then-not-is_empty+in_ok-answer_alone w ↦ rw (w.answerer-is, w.answers-is, w.out-is) (λ part begun.
          ends_line _ _ _ _ part c.args.line.now _ _ _ _ begun (is_more _ (sym c.is_empty.ensures ∙ w.if-not-is_empty.true)) w.answer_alone.ensures.long
          (w.in_ok-answer_alone.ensures.ok) w.answer_alone.ensures.grows)
      | else-not-is_empty w ↦ rw (w.answerer-is, w.answers-is, w.out-is) (λ part begun.
          ends_none _ _ part c.args.line.now _ _ begun (is_nil c.args.line.now (sym c.is_empty.ensures ∙ w.if-not-is_empty.false)))
    ] in
    err_then c.close.result c.close.ensures.err (λ err part begun.
    fails_end _ _ _ _ part _ _ _ _ _ (ends part begun) err)
