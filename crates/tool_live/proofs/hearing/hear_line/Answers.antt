use Rattle.std.proofs.Common.{◌≡◌, ◌∙◌, ap, sym, subst, inr, ℕ, ◌==◌, List, [], ◌∷◌, ◌++◌}
use Rattle.std.specs.Str.Lines.{lines, strip_carriage_return}
use Rattle.desk_edge.specs.Sink.{appended}
use Rattle.tool_live.specs.Answers.{Hears, PutsFront}
use Rattle.tool_live.specs.Hearing.{kept_with}
use Rattle.tool_live.proofs.Lines.{AreAlike, open_more, stripped_alike}
use Rattle.tool_live.proofs.Fronts.{put_none}
use Rattle.tool_live.proofs.Pieces.{line_heard, line_fails}
use Rattle.tool_live.proofs.FeedEnded.{ok_then, err_then, err_with, is_nil, open_empty}
use Rattle.tool_live.proofs.hearing.hear_line.Goals as goal

pub returns-then-is_empty-clause-ok : goal.returns-then-is_empty-clause-ok
returns-then-is_empty-clause-ok g c =
    let none = is_nil c.args.line.now.items (ap (λ (n : ℕ). n == 0) (sym c.args.line.now.ok.0) ∙ sym c.is_empty.ensures ∙ c.if-is_empty.true) in
    ok_then c.answer_line.result c.answer_line.ensures.ok (λ answers part begun.
    subst (λ (p : List ℕ). Hears p (c.args.text.now ++ 10 ∷ []) [] (g.A.Answerer.told c.args.answerer.now) (g.A.Answerer.told c.answer_line.new.answerer)
    (g.A.Answerer.called c.args.answerer.now) (g.A.Answerer.called c.answer_line.new.answerer) (appended c.args.answers.now.items (g.K.Sink.bytes c.args.out.now))
    (appended c.answer_line.new.answers.items (g.K.Sink.bytes c.answer_line.new.out))) (sym (open_empty part c.args.line.now.items begun none))
    (line_heard (g.A.Answerer.told c.args.answerer.now) (g.A.Answerer.called c.args.answerer.now) [] c.args.text.now c.without_return.result.now c.requires.unended
    (inr (sym c.without_return.ensures)) c.answer_line.ensures.long _ _ _ _ answers))

pub returns-then-is_empty-clause-err : goal.returns-then-is_empty-clause-err
returns-then-is_empty-clause-err g c =
    let none = is_nil c.args.line.now.items (ap (λ (n : ℕ). n == 0) (sym c.args.line.now.ok.0) ∙ sym c.is_empty.ensures ∙ c.if-is_empty.true) in
    err_then c.answer_line.result c.answer_line.ensures.err (λ front part begun rest.
    subst (λ (p : List ℕ). PutsFront (c.args.answers.now.items ++ g.A.Answerer.told c.args.answerer.now (lines (p ++ (c.args.text.now ++ 10 ∷ rest))))
    (g.K.Sink.bytes c.args.out.now) (g.K.Sink.bytes c.answer_line.new.out)) (sym (open_empty part c.args.line.now.items begun none))
    (line_fails (g.A.Answerer.told c.args.answerer.now) (g.A.Answerer.called c.args.answerer.now) [] c.args.text.now c.without_return.result.now c.requires.unended
    (inr (sym c.without_return.ensures)) c.answer_line.ensures.long c.args.answers.now.items rest _ _ front))

pub returns-in_err-keep-clause-err : goal.returns-in_err-keep-clause-err
returns-in_err-keep-clause-err g c = err_with c.from_residual.result (λ part begun rest. put_none _ _)

pub returns-in_err-answer_alone-clause-err : goal.returns-in_err-answer_alone-clause-err
returns-in_err-answer_alone-clause-err g c =
    let kept : c.keep.new.line.items ≡ kept_with c.args.line.now.items c.args.text.now = c.in_ok-keep.ensures in
    let is : c.without_return-2.result.now ≡ strip_carriage_return (kept_with c.args.line.now.items c.args.text.now) =
    c.without_return-2.ensures ∙ ap strip_carriage_return (c.deref.ensures.value ∙ kept) in
    err_with c.from_residual-in_err-answer_alone.result (λ part begun rest.
    let kept_open = open_more part c.args.line.now.items c.args.text.now begun c.requires.unended in
    line_fails (g.A.Answerer.told c.args.answerer.now) (g.A.Answerer.called c.args.answerer.now) part c.args.text.now c.without_return-2.result.now kept_open.unended
    (subst (λ (l : List ℕ). AreAlike l (strip_carriage_return (part ++ c.args.text.now))) (sym is) (stripped_alike (part ++ c.args.text.now) _ kept_open))
    c.answer_alone.ensures.long c.args.answers.now.items rest _ _ c.in_err-answer_alone.ensures.err)

pub returns-clause-ok : goal.returns-clause-ok
returns-clause-ok g c = λ part begun.
    let kept : c.keep.new.line.items ≡ kept_with c.args.line.now.items c.args.text.now = c.in_ok-keep.ensures in
    let is : c.without_return-2.result.now ≡ strip_carriage_return (kept_with c.args.line.now.items c.args.text.now) =
    c.without_return-2.ensures ∙ ap strip_carriage_return (c.deref.ensures.value ∙ kept) in
    let kept_open = open_more part c.args.line.now.items c.args.text.now begun c.requires.unended in
    line_heard (g.A.Answerer.told c.args.answerer.now) (g.A.Answerer.called c.args.answerer.now) part c.args.text.now c.without_return-2.result.now kept_open.unended
    (subst (λ (l : List ℕ). AreAlike l (strip_carriage_return (part ++ c.args.text.now))) (sym is) (stripped_alike (part ++ c.args.text.now) _ kept_open))
    c.answer_alone.ensures.long _ _ _ _ c.in_ok-answer_alone.ensures.ok
