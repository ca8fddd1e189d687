use Rattle.std.proofs.Common.{◌≡◌, ◌∙◌, ap, subst, sym, refl, ℕ, List, length}
use Rattle.std.specs.Prelude.{map}
use Rattle.std.proofs.lemmas.List.{length-map}
use Rattle.std.proofs.lemmas.Result.{err_from_is_err_and}
use Rattle.session_commands.specs.declared.command.Command.{Command}
use Rattle.session_commands.specs.Whole.{name_text}
use Rattle.session_model.specs.Course.{Running}
use Rattle.market_session.proofs.Started.{starts_actions}
use Rattle.watch_rounds.specs.declared.picker.Order.{Order}
use Rattle.live_model.specs.Live.{Live, live_from}
use Rattle.live_model.specs.Log.{scripted}
use Rattle.live_session.specs.Lines.{Lines, live_of}
use Rattle.live_session.proofs.Beside.{begins_beside}
use Rattle.tool_live.specs.Ends.{outside, ended, Ends}
use Rattle.tool_live.specs.Replies.{ordered, start_of, replies_behind, replies_in}
use Rattle.tool_live.specs.Verdict.{live_in}
use Rattle.tool_live.proofs.Ended.{cut_none}
use Rattle.tool_live.proofs.conversing.converse.Goals as goal

pub returns-in_err-texts-clause-ends : goal.returns-in_err-texts-clause-ends
returns-in_err-texts-clause-ends g c =
    let calc = g.B.Bench.calc c.args.bench.now in
    let p = err_from_is_err_and c.from_residual.result c.from_residual.ensures.1 in
    let old = outside (g.K.Sink.bytes c.args.out.now) (g.K.Sink.sent c.args.out.now) (g.B.Bench.count c.args.bench.now) (g.B.Bench.log c.args.bench.now) in
    rw (p.1, p.2) (cut_none (replies_in calc (live_in c.args.wanted)) (g.F.Feed.content c.args.feed.now) old old refl)

pub returns-in_err-session-clause-ends : goal.returns-in_err-session-clause-ends
returns-in_err-session-clause-ends g c =
    let calc = g.B.Bench.calc c.args.bench.now in
    let from = c.from_residual-in_err-session in
    let p = err_from_is_err_and from.result from.ensures.1 in
    let old = outside (g.K.Sink.bytes c.args.out.now) (g.K.Sink.sent c.args.out.now) (g.B.Bench.count c.args.bench.now) (g.B.Bench.log c.args.bench.now) in
    rw (p.1, p.2) (cut_none (replies_in calc (live_in c.args.wanted)) (g.F.Feed.content c.args.feed.now) old old refl)

pub converse_with-requires-clause-sound : goal.converse_with-requires-clause-sound
converse_with-requires-clause-sound g c = c.in_ok-session.ensures.sound (g.B.Bench.calc c.args.bench.now)

-- each action of the script has a name
pub converse_with-requires-clause-stands : goal.converse_with-requires-clause-stands
converse_with-requires-clause-stands g c =
    let names = c.args.wanted.run.market.names in
    let script = c.args.wanted.run.script in
    let standing = c.in_ok-session.session.standing in
    let texts : c.in_ok-texts.texts ≡ map (name_text names) script.action_names =
    c.in_ok-texts.ensures ∙ ap (map (name_text names)) c.items.ensures in
    let actions : standing.actions ≡ script.actions =
    starts_actions _ _ _ _ standing (ap (λ (r : Running Order). r.standing) c.in_ok-session.ensures.session) in
    begins_beside Order c.in_ok-session.session c.in_ok-texts.texts c.new-lines.result c.new-lines.ensures
    (ap (λ (l : List (List ℕ)). length l) texts ∙ length-map script.action_names (name_text names)
    ∙ sym (ap (λ (l : List (List Command)). length l) actions ∙ c.requires.can.1.paired))

pub returns-clause-ends : goal.returns-clause-ends
returns-clause-ends g c =
    let calc = g.B.Bench.calc c.args.bench.now in
    let asked = live_in c.args.wanted in
    let run = asked.run in
    let content = g.F.Feed.content c.args.feed.now in
    let left = g.F.Feed.content c.converse_with.new.feed in
    let old = outside (g.K.Sink.bytes c.args.out.now) (g.K.Sink.sent c.args.out.now) (g.B.Bench.count c.args.bench.now) (g.B.Bench.log c.args.bench.now) in
    let new = outside (g.K.Sink.bytes c.converse_with.new.out) (g.K.Sink.sent c.converse_with.new.out) (g.B.Bench.count c.converse_with.new.bench)
    (g.B.Bench.log c.converse_with.new.bench) in
    let status = ended c.converse_with.result in
    let texts : c.in_ok-texts.texts ≡ map (name_text run.names) run.script.action_names =
    c.in_ok-texts.ensures ∙ ap (map (name_text run.names)) c.items.ensures in
    let first = scripted asked.order run.today run.made (run.script, run.names) in
    let session = c.in_ok-session.session in
    let start : (let l : Live Order = live_of session c.new-lines.result in l) ≡ start_of asked =
    ap (λ (l : Lines). live_of session l) c.new-lines.ensures
    ∙ ap (λ (r : Running Order). live_from r c.in_ok-texts.texts) c.in_ok-session.ensures.session ∙ ap (live_from first) texts in
    let commands : c.items-2.result.now ≡ run.script.commands = c.items-2.ensures ∙ c.in_ok-session.ensures.commands in
    subst (λ (l : Live Order). Ends (ordered calc) asked.ready (replies_behind (ordered calc) asked.ready l run.script.commands) content left old new status) start
    (subst (λ (k : List Command). Ends (ordered calc) asked.ready (replies_behind (ordered calc) asked.ready (live_of session c.new-lines.result) k) content left old new status)
    commands c.converse_with.ensures.ends)
