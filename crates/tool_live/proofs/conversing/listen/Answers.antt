use Rattle.std.proofs.Common.{◌≡◌, ap, subst, Bool, [], rules}
use Rattle.std.specs.Prelude.{IfSome}
use Rattle.std.specs.Borrow.{GName}
use Rattle.std.specs.Str.Lines.{lines}
use Rattle.desk_edge.specs.Sink.{appended}
use Rattle.desk_terms.specs.Reading.{Calc}
use Rattle.session_model.specs.Course.{Meaning}
use Rattle.tool_live.specs.declared.answering.AnswerFault.TheVariants.{Read}
use Rattle.live_model.specs.Live.{spoken, conversation}
use Rattle.live_session.specs.Lines.{live_of}
use Rattle.tool_live.specs.Ends.{outside, called_from, IsAnswered, IsWaiting, IsCut}
use Rattle.tool_live.specs.Replies.{replies_of}
use Rattle.tool_live.proofs.Ended.{told_both, err_is, cut_none, cut_all, answered_all, waiting_all}
use Rattle.tool_live.proofs.conversing.listen.Goals as goal

pub returns-then-is_err-clause-ends : goal.returns-then-is_err-clause-ends
returns-then-is_err-clause-ends g c =
    let m : Meaning g.row.P.Denot = record { calc = g.B.Bench.calc c.args.bench.now; at = g.P.Picker.at; after = g.P.Picker.after } in
    cut_none (replies_of m c.args.ready (live_of c.args.session.now c.args.lines.now)) (g.F.Feed.content c.args.feed.now)
    (outside (g.K.Sink.bytes c.args.out.now) (g.K.Sink.sent c.args.out.now) (g.B.Bench.count c.args.bench.now) (g.B.Bench.log c.args.bench.now))
    (outside (g.K.Sink.bytes c.flush.new.self) (g.K.Sink.sent c.flush.new.self) (g.B.Bench.count c.args.bench.now) (g.B.Bench.log c.args.bench.now))
    c.flush.ensures.kept

pub returns-in-Ok-clause-ends : goal.returns-in-Ok-clause-ends
returns-in-Ok-clause-ends g c =
    let m : Meaning g.row.P.Denot = record { calc = g.B.Bench.calc c.args.bench.now; at = g.P.Picker.at; after = g.P.Picker.after } in
    let t = c.answer_all.new.answerer in
    let s = live_of c.args.session.now c.args.lines.now in
    let content = g.F.Feed.content c.args.feed.now in
    let old = outside (g.K.Sink.bytes c.args.out.now) (g.K.Sink.sent c.args.out.now) (g.B.Bench.count c.args.bench.now) (g.B.Bench.log c.args.bench.now) in
    let mid = outside (g.K.Sink.bytes c.flush.new.self) (g.K.Sink.sent c.flush.new.self) (g.B.Bench.count c.args.bench.now) (g.B.Bench.log c.args.bench.now) in
    let new = outside (g.K.Sink.bytes c.answer_all.new.out) (g.K.Sink.sent c.answer_all.new.out) (g.B.Bench.count t.bench.now) (g.B.Bench.log t.bench.now) in
    let calc = g.B.Bench.calc t.bench.now in
    subst (λ (b : g.row.B.Denot). IfSome content (λ input. IsAnswered (replies_of m c.args.ready s) (lines input) old
    (outside (g.K.Sink.bytes c.answer_all.new.out) (g.K.Sink.sent c.answer_all.new.out) (g.B.Bench.count b) (g.B.Bench.log b)))) {x = t.bench.now} (search rules)
    (told_both content (λ input. new.bytes ≡ appended (conversation m c.args.ready s (lines input)) mid.bytes)
    (λ input. called_from new (spoken (record m { calc = calc }) t.ready (live_of t.session.now t.lines.now) []).calls ≡ called_from old (spoken m c.args.ready s (lines input)).calls)
    (λ input. IsAnswered (replies_of m c.args.ready s) (lines input) old new)
    (λ input put called. answered_all m c.args.ready s old mid new c.flush.ensures.kept calc t.ready (live_of t.session.now t.lines.now) (lines input) put c.in-Ok.ensures.sent called)
    c.in-Ok.ensures.written c.in-Ok.ensures.calls)

pub returns-in-Err-Read-clause-ends : goal.returns-in-Err-Read-clause-ends
returns-in-Err-Read-clause-ends g c =
    let m : Meaning g.row.P.Denot = record { calc = g.B.Bench.calc c.args.bench.now; at = g.P.Picker.at; after = g.P.Picker.after } in
    let t = c.answer_all.new.answerer in
    let s = live_of c.args.session.now c.args.lines.now in
    let content = g.F.Feed.content c.args.feed.now in
    let left = g.F.Feed.content c.answer_all.new.feed in
    let old = outside (g.K.Sink.bytes c.args.out.now) (g.K.Sink.sent c.args.out.now) (g.B.Bench.count c.args.bench.now) (g.B.Bench.log c.args.bench.now) in
    let mid = outside (g.K.Sink.bytes c.flush.new.self) (g.K.Sink.sent c.flush.new.self) (g.B.Bench.count c.args.bench.now) (g.B.Bench.log c.args.bench.now) in
    let new = outside (g.K.Sink.bytes c.answer_all.new.out) (g.K.Sink.sent c.answer_all.new.out) (g.B.Bench.count t.bench.now) (g.B.Bench.log t.bench.now) in
    let kept = c.answer_all.ensures.kept in
    let read = err_is c.answer_all.result c.in-Err-Read.field-0 Read c.in-Err-Read.is c.in-Err-Read.field-0-is in
    subst (λ (b : g.row.B.Denot).
    IsWaiting m c.args.ready (replies_of m c.args.ready s) content left old
    (outside (g.K.Sink.bytes c.answer_all.new.out) (g.K.Sink.sent c.answer_all.new.out) (g.B.Bench.count b) (g.B.Bench.log b))
    × IsCut (replies_of m c.args.ready s) content old
    (outside (g.K.Sink.bytes c.answer_all.new.out) (g.K.Sink.sent c.answer_all.new.out) (g.B.Bench.count b) (g.B.Bench.log b))) {x = t.bench.now} (search rules) (
      waiting_all m c.args.ready s old mid new c.flush.ensures.kept content left (live_of t.session.now t.lines.now) (g.B.Bench.calc t.bench.now) t.ready
          (ap (λ (k : Calc × GName × Bool). k.0) kept) (ap (λ (k : Calc × GName × Bool). k.2) kept) (c.answer_all.ensures.prompt read),
      cut_all m c.args.ready s old mid new c.flush.ensures.kept content c.in-Err-Read.ensures.front,
    )
