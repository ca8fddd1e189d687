use Rattle.std.proofs.Common.{inr, ◌∙◌, sym, ap}
use Rattle.std.specs.Prelude.{is_ok}
use Rattle.std.proofs.lemmas.Bool.{false≢true}
use Rattle.std.proofs.lemmas.Result.{err_from_is_err_and, on_ok_weaker, on_err_weaker}
use Rattle.session_model.specs.Turn.{turn}
use Rattle.session_model.specs.Course.{Running, Meaning, taken, heard, and_then, course_of}
use Rattle.session_model.specs.Moments.{moment_of}
use Rattle.session_rounds.proofs.Going.{does_both, halts_first, halts_second, does_priced, halts_priced}
use Rattle.session_model.proofs.Moments.{heard_calls}
use Rattle.session_rounds.proofs.Hearing.{no_front}
use Rattle.session_rounds.proofs.Stopping.{stops_hearing, halts_one}
use Rattle.session_rounds.proofs.session.WatchedSession.command.Goals as goal

pub returns-in_err-act-clause-err : goal.returns-in_err-act-clause-err
unfolding course_of
returns-in_err-act-clause-err g c =
    let e = err_from_is_err_and c.from_residual.result c.from_residual.ensures.1 in
    rw e.1 (halts_first (taken (turn (g.B.Bench.calc c.args.bench.now) c.args.self.now.standing c.args.command.now) c.args.self.now) heard
    (record { lines = c.args.lines.now.items; count = g.B.Bench.count c.args.bench.now; log = g.B.Bench.log c.args.bench.now })
    (record { lines = c.act.new.lines.items; count = g.B.Bench.count c.act.new.bench; log = g.B.Bench.log c.act.new.bench }) c.in_err-act.ensures.err)

pub returns-clause-ok : goal.returns-clause-ok
unfolding course_of
returns-clause-ok g c =
    on_ok_weaker c.hear.result (λ does. does_both (taken (turn (g.B.Bench.calc c.args.bench.now) c.args.self.now.standing c.args.command.now) c.args.self.now)
    heard c.act.new.self c.hear.new.self
    (record { lines = c.args.lines.now.items; count = g.B.Bench.count c.args.bench.now; log = g.B.Bench.log c.args.bench.now })
    (record { lines = c.act.new.lines.items; count = g.B.Bench.count c.act.new.bench; log = g.B.Bench.log c.act.new.bench })
    (record { lines = c.hear.new.lines.items; count = g.B.Bench.count c.act.new.bench; log = g.B.Bench.log c.act.new.bench })
    c.in_ok-act.ensures.ok
    (does_priced (heard c.act.new.self) (heard_calls c.act.new.self) c.act.new.lines.items c.hear.new.lines.items
    (g.B.Bench.count c.act.new.bench) (g.B.Bench.log c.act.new.bench) c.hear.new.self does)) c.hear.ensures.ok

pub returns-clause-err : goal.returns-clause-err
unfolding course_of
returns-clause-err g c =
    on_err_weaker c.hear.result (λ halts. halts_second (taken (turn (g.B.Bench.calc c.args.bench.now) c.args.self.now.standing c.args.command.now) c.args.self.now)
    heard c.act.new.self
    (record { lines = c.args.lines.now.items; count = g.B.Bench.count c.args.bench.now; log = g.B.Bench.log c.args.bench.now })
    (record { lines = c.act.new.lines.items; count = g.B.Bench.count c.act.new.bench; log = g.B.Bench.log c.act.new.bench })
    (record { lines = c.hear.new.lines.items; count = g.B.Bench.count c.act.new.bench; log = g.B.Bench.log c.act.new.bench })
    c.in_ok-act.ensures.ok
    (halts_priced (heard c.act.new.self) (heard_calls c.act.new.self) c.act.new.lines.items c.hear.new.lines.items
    (g.B.Bench.count c.act.new.bench) (g.B.Bench.log c.act.new.bench) halts)) c.hear.ensures.err

pub returns-clause-stays : goal.returns-clause-stays
returns-clause-stays g c = record {
  names = c.hear.ensures.names ∙ c.act.ensures.stays.names;
  actions = c.hear.ensures.actions ∙ c.act.ensures.stays.actions;
  sound = c.hear.ensures.sound (g.B.Bench.calc c.args.bench.now) c.act.ensures.stays.sound;
}

pub returns-in_err-act-clause-ready : goal.returns-in_err-act-clause-ready
returns-in_err-act-clause-ready g c = λ free silent. absurd (false≢true (sym (ap is_ok c.in_err-act.was) ∙ c.act.ensures.ready free))

pub returns-clause-ready : goal.returns-clause-ready
unfolding course_of and_then
returns-clause-ready g c = λ free silent.
    c.hear.ensures.ready (ap (λ (r : Running g.row.P.Denot). (heard r).lines) c.in_ok-act.ensures.ok.next
    ∙ (no_front (turn (g.B.Bench.calc c.args.bench.now) c.args.self.now.standing c.args.command.now).lines _ silent).1)

pub returns-in_err-act-clause-so_far : goal.returns-in_err-act-clause-so_far
returns-in_err-act-clause-so_far g c =
    let m : Meaning g.row.P.Denot = record { calc = g.B.Bench.calc c.args.bench.now; at = g.P.Picker.at; after = g.P.Picker.after } in
    let e = err_from_is_err_and c.from_residual.result c.from_residual.ensures.1 in
    rw e.1 (halts_one m.calc (moment_of m c.args.self.now c.args.command.now) _ _ c.in_err-act.ensures.so_far)

pub returns-clause-so_far : goal.returns-clause-so_far
returns-clause-so_far g c =
    let m : Meaning g.row.P.Denot = record { calc = g.B.Bench.calc c.args.bench.now; at = g.P.Picker.at; after = g.P.Picker.after } in
    on_err_weaker c.hear.result (λ halts. halts_one m.calc (moment_of m c.args.self.now c.args.command.now) _ _
    (inr (stops_hearing m c.args.self.now c.act.new.self c.args.command.now c.act.new.lines.items c.hear.new.lines.items
    (record { lines = c.args.lines.now.items; count = g.B.Bench.count c.args.bench.now; log = g.B.Bench.log c.args.bench.now })
    (g.B.Bench.count c.act.new.bench) (g.B.Bench.log c.act.new.bench) c.in_ok-act.ensures.ok halts))) c.hear.ensures.err
