use Rattle.std.proofs.Common.{◌∙◌, ap, sym, ℕ, [], ◌∷◌, ◌++◌, append-nil}
use Rattle.session_model.specs.Course.{Meaning}
use Rattle.session_rounds.specs.Goes.{Output}
use Rattle.live_model.specs.Live.{said, ready_text, conversation}
use Rattle.live_session.specs.Lines.{live_of}
use Rattle.tool_live.proofs.Ended.{ok_of, ok_then, err_then}
use Rattle.tool_live.proofs.Replied.{told_more, counted_on, logged_on, front_of_line, front_none, untaken}
use Rattle.tool_live.proofs.talk.answer_line.Goals as goal

pub returns-then-is_err-clause-err : goal.returns-then-is_err-clause-err
returns-then-is_err-clause-err g c = λ rest.
    let m : Meaning g.row.P.Denot = record { calc = g.B.Bench.calc c.args.bench.now; at = g.P.Picker.at; after = g.P.Picker.after } in
    untaken c.say.result (sym c.is_err.ensures.value ∙ c.if-is_err.true)
    (λ none.
    let halts = c.say.ensures.halts none in
    front_of_line m c.args.ready (live_of c.args.session.now c.args.lines.now) c.args.line.now rest c.args.answers.now.items c.say.new.out.items halts.front halts.rest halts.whole
    (ap (λ (o : Output). o.lines) halts.out))
    (λ kept. front_none c.args.answers.now.items c.say.new.out.items (conversation m c.args.ready (live_of c.args.session.now c.args.lines.now) (c.args.line.now ∷ rest))
    (c.say.ensures.kept kept).2)

pub returns-clause-ok : goal.returns-clause-ok
returns-clause-ok g c =
    let m : Meaning g.row.P.Denot = record { calc = g.B.Bench.calc c.args.bench.now; at = g.P.Picker.at; after = g.P.Picker.after } in
    let says = ok_of c.say.result (sym c.is_err.ensures.value ∙ c.if-is_err.false) c.say.ensures.says in
    rw c.say.ensures.same (ok_then c.tell_ready.result c.tell_ready.ensures.ok (λ told rest.
    told_more m c.args.ready (live_of c.args.session.now c.args.lines.now) c.args.line.now rest c.args.answers.now.items c.say.new.out.items c.tell_ready.new.answers.items
    (live_of c.say.new.session c.say.new.self) says.next (ap (λ (o : Output). o.lines) says.out)
    (told ∙ ap (λ (n : ℕ). c.say.new.out.items ++ ready_text c.args.ready n) c.count.ensures)))

pub returns-clause-count : goal.returns-clause-count
returns-clause-count g c =
    let m : Meaning g.row.P.Denot = record { calc = g.B.Bench.calc c.args.bench.now; at = g.P.Picker.at; after = g.P.Picker.after } in
    let says = ok_of c.say.result (sym c.is_err.ensures.value ∙ c.if-is_err.false) c.say.ensures.says in
    rw c.say.ensures.same (ok_then c.tell_ready.result c.tell_ready.ensures.ok (λ told rest.
    counted_on m c.args.ready (live_of c.args.session.now c.args.lines.now) c.args.line.now rest (g.B.Bench.count c.args.bench.now) (g.B.Bench.count c.say.new.bench) (live_of c.say.new.session c.say.new.self)
    says.next (ap (λ (o : Output). o.count) says.out)))

pub returns-clause-log : goal.returns-clause-log
returns-clause-log g c =
    let m : Meaning g.row.P.Denot = record { calc = g.B.Bench.calc c.args.bench.now; at = g.P.Picker.at; after = g.P.Picker.after } in
    let says = ok_of c.say.result (sym c.is_err.ensures.value ∙ c.if-is_err.false) c.say.ensures.says in
    rw c.say.ensures.same (ok_then c.tell_ready.result c.tell_ready.ensures.ok (λ told rest.
    logged_on m c.args.ready (live_of c.args.session.now c.args.lines.now) c.args.line.now rest (g.B.Bench.log c.args.bench.now) (g.B.Bench.log c.say.new.bench) (live_of c.say.new.session c.say.new.self)
    says.next (ap (λ (o : Output). o.log) says.out)))

pub returns-clause-err : goal.returns-clause-err
returns-clause-err g c =
    let m : Meaning g.row.P.Denot = record { calc = g.B.Bench.calc c.args.bench.now; at = g.P.Picker.at; after = g.P.Picker.after } in
    let says = ok_of c.say.result (sym c.is_err.ensures.value ∙ c.if-is_err.false) c.say.ensures.says in
    let lines = (said m (live_of c.args.session.now c.args.lines.now) c.args.line.now).lines in
    err_then c.tell_ready.result c.tell_ready.ensures.err (λ kept rest.
    front_of_line m c.args.ready (live_of c.args.session.now c.args.lines.now) c.args.line.now rest c.args.answers.now.items c.tell_ready.new.answers.items lines []
    (sym (append-nil lines)) (kept ∙ ap (λ (o : Output). o.lines) says.out))
