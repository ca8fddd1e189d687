use Rattle.std.proofs.Common.{◌≡◌, ◌∙◌, ap, sym, subst, refl, ℕ, ◌+◌, ◌-◌, List, [], ◌∷◌, ◌++◌, length, take, drop, append_assoc, arith}
use Rattle.std.proofs.Math.Seq.{take_all}
use Rattle.std.proofs.lemmas.List.{length-drop}
use Rattle.std.specs.Str.Lines.{lines}
use Rattle.desk_edge.specs.Sink.{appended}
use Rattle.tool_live.specs.Answers.{Hears, PutsFront}
use Rattle.tool_live.specs.Hearing.{IsOpen}
use Rattle.tool_live.proofs.Lines.{open_more, ends_nowhere, ends_at}
use Rattle.tool_live.proofs.Fronts.{put_both, put_none}
use Rattle.tool_live.proofs.Heard.{heard_more, heard_then, heard_front}
use Rattle.tool_live.proofs.FeedEnded.{err_with, open_none}
use Rattle.tool_live.proofs.hearing.hear.Goals as goal

pub hear_line-requires-clause-unended : goal.hear_line-requires-clause-unended
hear_line-requires-clause-unended g c = (ends_at c.loop-end.rest.now c.in-Some.end (sym c.end_of.ensures ∙ c.in-Some.is)).1

pub returns-in_err-hear_line-clause-err : goal.returns-in_err-hear_line-clause-err
returns-in_err-hear_line-clause-err g c =
    let loop = c.loop-end in
    let i = loop.invariant in
    let first = ends_at loop.rest.now c.in-Some.end (sym c.end_of.ensures ∙ c.in-Some.is) in
    let text = take c.in-Some.end loop.rest.now in
    let more = drop (c.in-Some.end + 1) loop.rest.now in
    err_with c.from_residual.result (λ part begun rest.
    let before = i.heard part begun in
    let cut : i.done ++ (loop.rest.now ++ rest) ≡ c.args.piece.now ++ rest =
    sym (append_assoc i.done loop.rest.now rest) ∙ ap (λ (l : List ℕ). l ++ rest) (sym i.whole) in
    let split : text ++ 10 ∷ (more ++ rest) ≡ loop.rest.now ++ rest =
    sym (append_assoc text (10 ∷ more) rest) ∙ ap (λ (l : List ℕ). l ++ rest) (sym first.2) in
    subst (λ (l : List ℕ). PutsFront (c.args.answers.now.items ++ g.A.Answerer.told c.args.answerer.now (lines (part ++ l))) (g.K.Sink.bytes c.args.out.now)
    (g.K.Sink.bytes c.hear_line.new.out)) cut
    (heard_front (g.A.Answerer.told c.args.answerer.now) (g.A.Answerer.called c.args.answerer.now) part _ (g.A.Answerer.told loop.answerer)
    (g.A.Answerer.called loop.answerer) i.done before.0 _ before.2 (g.K.Sink.bytes c.args.out.now) (g.K.Sink.bytes loop.out) (g.K.Sink.bytes c.hear_line.new.out)
    loop.answers.items c.args.answers.now.items i.grows.0 _ (loop.rest.now ++ rest) refl refl i.grows.1
    (ap (λ (l : List ℕ). g.A.Answerer.told loop.answerer (lines (before.0 ++ l))) (sym split))
    (c.in_err-hear_line.ensures.err before.0 before.1 (more ++ rest))))

pub returns-in_err-hear_line-clause-grows : goal.returns-in_err-hear_line-clause-grows
returns-in_err-hear_line-clause-grows g c =
    let before = c.loop-end.invariant.grows in
    let more = c.hear_line.ensures.grows in
    (before.0 ++ more.0, put_both before.0 more.0 _ _ _ before.1 more.1)

pub loop-end-preserved : goal.loop-end-preserved
loop-end-preserved g c =
    let loop = c.loop-end in
    let i = loop.invariant in
    let first = ends_at loop.rest.now c.in-Some.end (sym c.end_of.ensures ∙ c.in-Some.is) in
    let text = take c.in-Some.end loop.rest.now in
    let more = drop (c.in-Some.end + 1) loop.rest.now in
    let grew = c.hear_line.ensures.grows in
    let tail : take (length loop.rest.now - (c.in-Some.end + 1)) more ≡ more =
    take_all _ more (omega (arith, length-drop (c.in-Some.end + 1) loop.rest.now)) in
    record {
      kept = c.hear_line.ensures.kept ∙ i.kept;
      can = c.in_ok-hear_line.ensures.can;
      done = i.done ++ (text ++ 10 ∷ []);
      whole = i.whole ∙ ap (λ (l : List ℕ). i.done ++ l) (first.2 ∙ sym (append_assoc text (10 ∷ []) more)) ∙ sym (append_assoc i.done (text ++ 10 ∷ []) more)
          ∙ ap (λ (l : List ℕ). (i.done ++ (text ++ 10 ∷ [])) ++ l) (sym tail);
      heard = λ part begun.
          let before = i.heard part begun in (
            [],
            open_none _ c.in_ok-hear_line.ensures.empty,
            heard_then (g.A.Answerer.told c.args.answerer.now) (g.A.Answerer.called c.args.answerer.now) part _ (g.A.Answerer.told loop.answerer)
                (g.A.Answerer.called loop.answerer) i.done before.0 _ before.2 _ _ (text ++ 10 ∷ []) [] _
                (c.in_ok-hear_line.ensures.ok before.0 before.1),
          );
      grows = (i.grows.0 ++ grew.0, put_both i.grows.0 grew.0 _ _ _ i.grows.1 grew.1);
      faults = c.in_ok-hear_line.ensures.clean ∙ i.faults;
    }

pub returns-in_err-keep-clause-err : goal.returns-in_err-keep-clause-err
returns-in_err-keep-clause-err g c =
    let loop = c.loop-end in
    let i = loop.invariant in
    err_with c.from_residual-in_err-keep.result (λ part begun rest.
    let before = i.heard part begun in
    let cut : i.done ++ (loop.rest.now ++ rest) ≡ c.args.piece.now ++ rest =
    sym (append_assoc i.done loop.rest.now rest) ∙ ap (λ (l : List ℕ). l ++ rest) (sym i.whole) in
    subst (λ (l : List ℕ). PutsFront (c.args.answers.now.items ++ g.A.Answerer.told c.args.answerer.now (lines (part ++ l))) (g.K.Sink.bytes c.args.out.now)
    (g.K.Sink.bytes loop.out)) cut
    (heard_front (g.A.Answerer.told c.args.answerer.now) (g.A.Answerer.called c.args.answerer.now) part _ (g.A.Answerer.told loop.answerer)
    (g.A.Answerer.called loop.answerer) i.done before.0 _ before.2 (g.K.Sink.bytes c.args.out.now) (g.K.Sink.bytes loop.out) (g.K.Sink.bytes loop.out)
    loop.answers.items c.args.answers.now.items i.grows.0 _ (loop.rest.now ++ rest) refl refl i.grows.1 refl (put_none _ _)))

pub returns-clause-ok : goal.returns-clause-ok
returns-clause-ok g c = λ part begun.
    let loop = c.loop-end in
    let i = loop.invariant in
    let before = i.heard part begun in
    let none = ends_nowhere loop.rest.now (sym c.end_of.ensures ∙ c.in_default.is) in (
      before.0 ++ loop.rest.now,
      subst (λ (l : List ℕ). IsOpen (before.0 ++ loop.rest.now) l) (sym {A = List ℕ} c.in_ok-keep.ensures) (open_more before.0 loop.line.items loop.rest.now before.1 none),
      subst (λ (l : List ℕ). Hears part l (before.0 ++ loop.rest.now) (g.A.Answerer.told c.args.answerer.now) (g.A.Answerer.told loop.answerer)
          (g.A.Answerer.called c.args.answerer.now) (g.A.Answerer.called loop.answerer) (appended c.args.answers.now.items (g.K.Sink.bytes c.args.out.now))
          (appended loop.answers.items (g.K.Sink.bytes loop.out))) (sym i.whole)
          (heard_more (g.A.Answerer.told c.args.answerer.now) (g.A.Answerer.called c.args.answerer.now) part _ (g.A.Answerer.told loop.answerer)
          (g.A.Answerer.called loop.answerer) i.done before.0 _ before.2 loop.rest.now),
    )
