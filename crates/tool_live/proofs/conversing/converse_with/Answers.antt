use Rattle.std.proofs.Common.{subst}
use Rattle.std.proofs.lemmas.Result.{err_from_is_err_and}
use Rattle.desk_terms.specs.Reading.{Calc}
use Rattle.session_model.specs.Course.{Running, Meaning}
use Rattle.session_model.specs.Rounds.{transcript, calls_of}
use Rattle.live_session.specs.Lines.{live_of}
use Rattle.live_session.proofs.Beside.{stays_beside}
use Rattle.tool_live.specs.Ends.{outside, ended, Ends}
use Rattle.tool_live.specs.Replies.{replies_of, played}
use Rattle.tool_live.proofs.Ended.{ends_early, ends_behind}
use Rattle.tool_live.proofs.conversing.converse_with.Goals as goal

pub returns-in_err-play-clause-ends : goal.returns-in_err-play-clause-ends
returns-in_err-play-clause-ends g c =
    let m : Meaning g.row.P.Denot = record { calc = g.B.Bench.calc c.args.bench.now; at = g.P.Picker.at; after = g.P.Picker.after } in
    let s = live_of c.args.session.now c.args.lines.now in
    let from = c.from_residual in
    let p = err_from_is_err_and from.result from.ensures.1 in
    rw (p.1, p.2) (ends_early m c.args.ready (transcript m s.running c.args.commands.now) (calls_of m s.running c.args.commands.now)
    (replies_of m c.args.ready (played m s c.args.commands.now)) (g.F.Feed.content c.args.feed.now)
    (outside (g.K.Sink.bytes c.args.out.now) (g.K.Sink.sent c.args.out.now) (g.B.Bench.count c.args.bench.now) (g.B.Bench.log c.args.bench.now))
    (outside (g.K.Sink.bytes c.play.new.out) (g.K.Sink.sent c.play.new.out) (g.B.Bench.count c.play.new.bench) (g.B.Bench.log c.play.new.bench))
    c.in_err-play.field-0.0 c.in_err-play.ensures.late c.in_err-play.ensures.front)

pub listen-requires-clause-stands : goal.listen-requires-clause-stands
listen-requires-clause-stands g c =
    stays_beside g.row.P.Denot c.args.session.now c.play.new.session c.args.lines.now c.in_ok-play.ensures.names c.in_ok-play.ensures.actions c.requires.stands

pub returns-clause-ends : goal.returns-clause-ends
returns-clause-ends g c =
    let m : Meaning g.row.P.Denot = record { calc = g.B.Bench.calc c.args.bench.now; at = g.P.Picker.at; after = g.P.Picker.after } in
    let s = live_of c.args.session.now c.args.lines.now in
    let commands = c.args.commands.now in
    let ready = c.args.ready in
    let content = g.F.Feed.content c.args.feed.now in
    let left = g.F.Feed.content c.listen.new.feed in
    let old = outside (g.K.Sink.bytes c.args.out.now) (g.K.Sink.sent c.args.out.now) (g.B.Bench.count c.args.bench.now) (g.B.Bench.log c.args.bench.now) in
    let mid = outside (g.K.Sink.bytes c.play.new.out) (g.K.Sink.sent c.play.new.out) (g.B.Bench.count c.play.new.bench) (g.B.Bench.log c.play.new.bench) in
    let new = outside (g.K.Sink.bytes c.listen.new.out) (g.K.Sink.sent c.listen.new.out) (g.B.Bench.count c.listen.new.bench) (g.B.Bench.log c.listen.new.bench) in
    let status = ended c.listen.result in
    let round = c.in_ok-play.ensures in
    let same = subst (λ (k : Calc). Ends (record m { calc = k }) ready (replies_of (record m { calc = k }) ready (live_of c.play.new.session c.args.lines.now)) content left mid new status)
    c.play.ensures.same c.listen.ensures.ends in
    let ends = subst (λ (r : Running g.row.P.Denot). Ends m ready (replies_of m ready (live_of r c.args.lines.now)) content left mid new status)
    round.next same in
    ends_behind (transcript m s.running commands) (calls_of m s.running commands) (replies_of m ready (played m s commands)) content left old mid new
    round.written round.count round.log m ready status ends
