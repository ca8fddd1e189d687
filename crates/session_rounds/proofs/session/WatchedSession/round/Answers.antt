use Rattle.std.proofs.Common.{◌∙◌, [], ◌∷◌, sym, ap, subst, arith}
use Rattle.std.specs.Prelude.{is_ok}
use Rattle.std.proofs.lemmas.Bool.{false≢true}
use Rattle.std.proofs.lemmas.Result.{err_from_is_err_and, on_ok_weaker, on_err_weaker}
use Rattle.desk_terms.specs.Reading.{Calc}
use Rattle.watch_rounds.specs.Round.{runs_left}
use Rattle.session_model.specs.Standing.{IsKnown}
use Rattle.session_model.specs.Course.{Running, Meaning, course_of, runs_by, most_runs, opened, round_of}
use Rattle.session_model.specs.Moments.{moment_of, moments_of_runs, moments_of_round}
use Rattle.session_model.proofs.Ends.{done_left}
use Rattle.session_rounds.specs.Goes.{Does, Halts, Stays}
use Rattle.session_rounds.specs.Quiet.{IsQuiet}
use Rattle.session_rounds.specs.Stopped.{HaltsIn}
use Rattle.session_rounds.proofs.Going.{does_both, halts_first, halts_second}
use Rattle.session_rounds.proofs.Plays.{opened_left}
use Rattle.session_rounds.proofs.Stopping.{halts_before, halts_then}
use Rattle.session_rounds.proofs.session.WatchedSession.round.Goals as goal

pub command-requires : goal.command-requires
unfolding opened
command-requires g c = record {
  running = ap (λ (r : Running g.row.P.Denot). r.standing.stopped) c.open.ensures.opens ∙ c.requires.running;
  known = subst (λ (r : Running g.row.P.Denot). IsKnown r.standing c.args.command.now) (sym c.open.ensures.opens) c.requires.known;
  sound = c.open.ensures.sound (g.B.Bench.calc c.args.bench.now) c.requires.sound;
}

pub returns-in_err-command-clause-err : goal.returns-in_err-command-clause-err
unfolding round_of
returns-in_err-command-clause-err g c =
    let m : Meaning g.row.P.Denot = record { calc = g.B.Bench.calc c.args.bench.now; at = g.P.Picker.at; after = g.P.Picker.after } in
    let e = err_from_is_err_and c.from_residual.result c.from_residual.ensures.1 in
    rw e.1 (halts_first (course_of m (opened c.args.self.now) c.args.command.now) (runs_by m (most_runs c.args.self.now))
    (record { lines = c.args.lines.now.items; count = g.B.Bench.count c.args.bench.now; log = g.B.Bench.log c.args.bench.now })
    (record { lines = c.command.new.lines.items; count = g.B.Bench.count c.command.new.bench; log = g.B.Bench.log c.command.new.bench })
    (subst (λ (r : Running g.row.P.Denot). Halts g.row.P.Denot (course_of m r c.args.command.now)
    (record { lines = c.args.lines.now.items; count = g.B.Bench.count c.args.bench.now; log = g.B.Bench.log c.args.bench.now })
    (record { lines = c.command.new.lines.items; count = g.B.Bench.count c.command.new.bench; log = g.B.Bench.log c.command.new.bench }))
    c.open.ensures.opens c.in_err-command.ensures.err))

pub returns-clause-ok : goal.returns-clause-ok
unfolding round_of
returns-clause-ok g c =
    let m : Meaning g.row.P.Denot = record { calc = g.B.Bench.calc c.args.bench.now; at = g.P.Picker.at; after = g.P.Picker.after } in
    let first = subst (λ (r : Running g.row.P.Denot). Does g.row.P.Denot (course_of m r c.args.command.now) c.command.new.self
    (record { lines = c.args.lines.now.items; count = g.B.Bench.count c.args.bench.now; log = g.B.Bench.log c.args.bench.now })
    (record { lines = c.command.new.lines.items; count = g.B.Bench.count c.command.new.bench; log = g.B.Bench.log c.command.new.bench }))
    c.open.ensures.opens c.in_ok-command.ensures.ok in
    let same = ap (λ (r : Running g.row.P.Denot). runs_left r.round) first.next ∙ done_left m (opened c.args.self.now) c.args.command.now in
    let eight = opened_left c.args.self.now in
    on_ok_weaker c.run_all.result (λ each. does_both (course_of m (opened c.args.self.now) c.args.command.now) (runs_by m (most_runs c.args.self.now))
    c.command.new.self c.run_all.new.self _ _ _ first
    (subst (λ (k : Calc). Does g.row.P.Denot (runs_by (record m { calc = k }) (most_runs c.args.self.now) c.command.new.self) c.run_all.new.self
    (record { lines = c.command.new.lines.items; count = g.B.Bench.count c.command.new.bench; log = g.B.Bench.log c.command.new.bench })
    (record { lines = c.run_all.new.lines.items; count = g.B.Bench.count c.run_all.new.bench; log = g.B.Bench.log c.run_all.new.bench }))
    c.command.ensures.same (each (most_runs c.args.self.now) (omega arith)))) c.run_all.ensures.ok

pub returns-clause-err : goal.returns-clause-err
unfolding round_of
returns-clause-err g c =
    let m : Meaning g.row.P.Denot = record { calc = g.B.Bench.calc c.args.bench.now; at = g.P.Picker.at; after = g.P.Picker.after } in
    let first = subst (λ (r : Running g.row.P.Denot). Does g.row.P.Denot (course_of m r c.args.command.now) c.command.new.self
    (record { lines = c.args.lines.now.items; count = g.B.Bench.count c.args.bench.now; log = g.B.Bench.log c.args.bench.now })
    (record { lines = c.command.new.lines.items; count = g.B.Bench.count c.command.new.bench; log = g.B.Bench.log c.command.new.bench }))
    c.open.ensures.opens c.in_ok-command.ensures.ok in
    let same = ap (λ (r : Running g.row.P.Denot). runs_left r.round) first.next ∙ done_left m (opened c.args.self.now) c.args.command.now in
    let eight = opened_left c.args.self.now in
    on_err_weaker c.run_all.result (λ each. halts_second (course_of m (opened c.args.self.now) c.args.command.now) (runs_by m (most_runs c.args.self.now))
    c.command.new.self _ _ _ first
    (subst (λ (k : Calc). Halts g.row.P.Denot (runs_by (record m { calc = k }) (most_runs c.args.self.now) c.command.new.self)
    (record { lines = c.command.new.lines.items; count = g.B.Bench.count c.command.new.bench; log = g.B.Bench.log c.command.new.bench })
    (record { lines = c.run_all.new.lines.items; count = g.B.Bench.count c.run_all.new.bench; log = g.B.Bench.log c.run_all.new.bench }))
    c.command.ensures.same (each (most_runs c.args.self.now) (omega arith)))) c.run_all.ensures.err

pub returns-in_err-command-clause-stays : goal.returns-in_err-command-clause-stays
unfolding opened
returns-in_err-command-clause-stays g c = record {
  names = c.command.ensures.stays.names ∙ ap (λ (r : Running g.row.P.Denot). r.standing.names) c.open.ensures.opens;
  actions = c.command.ensures.stays.actions ∙ ap (λ (r : Running g.row.P.Denot). r.standing.actions) c.open.ensures.opens;
  sound = c.command.ensures.stays.sound;
}

pub returns-clause-stays : goal.returns-clause-stays
unfolding opened
returns-clause-stays g c =
    let stays = subst (λ (k : Calc). Stays k c.command.new.self.standing c.run_all.new.self.standing) c.command.ensures.same c.run_all.ensures.stays in record {
      names = stays.names ∙ c.command.ensures.stays.names ∙ ap (λ (r : Running g.row.P.Denot). r.standing.names) c.open.ensures.opens;
      actions = stays.actions ∙ c.command.ensures.stays.actions ∙ ap (λ (r : Running g.row.P.Denot). r.standing.actions) c.open.ensures.opens;
      sound = stays.sound;
    }

pub returns-in_err-command-clause-ready : goal.returns-in_err-command-clause-ready
returns-in_err-command-clause-ready g c = λ quiet.
    let m : Meaning g.row.P.Denot = record { calc = g.B.Bench.calc c.args.bench.now; at = g.P.Picker.at; after = g.P.Picker.after } in
    let here = subst (λ (r : Running g.row.P.Denot). IsQuiet g.row.P.Denot m r c.args.command.now) (sym c.open.ensures.opens) quiet in
    absurd (false≢true (sym (ap is_ok c.in_err-command.was) ∙ c.command.ensures.ready here.free here.silent))

pub returns-clause-ready : goal.returns-clause-ready
returns-clause-ready g c = λ quiet.
    let m : Meaning g.row.P.Denot = record { calc = g.B.Bench.calc c.args.bench.now; at = g.P.Picker.at; after = g.P.Picker.after } in
    let here = subst (λ (r : Running g.row.P.Denot). IsQuiet g.row.P.Denot m r c.args.command.now) (sym c.open.ensures.opens) quiet in
    c.run_all.ensures.ready (ap (λ (r : Running g.row.P.Denot). r.round.due) c.in_ok-command.ensures.ok.next ∙ here.idle)

pub returns-in_err-command-clause-so_far : goal.returns-in_err-command-clause-so_far
unfolding moments_of_round
returns-in_err-command-clause-so_far g c =
    let m : Meaning g.row.P.Denot = record { calc = g.B.Bench.calc c.args.bench.now; at = g.P.Picker.at; after = g.P.Picker.after } in
    let e = err_from_is_err_and c.from_residual.result c.from_residual.ensures.1 in
    rw e.1 (halts_before m.calc (moment_of m (opened c.args.self.now) c.args.command.now ∷ [])
    (moments_of_runs m (most_runs c.args.self.now) (course_of m (opened c.args.self.now) c.args.command.now).next)
    (record { lines = c.args.lines.now.items; count = g.B.Bench.count c.args.bench.now; log = g.B.Bench.log c.args.bench.now })
    (record { lines = c.command.new.lines.items; count = g.B.Bench.count c.command.new.bench; log = g.B.Bench.log c.command.new.bench })
    (subst (λ (r : Running g.row.P.Denot). HaltsIn m.calc (moment_of m r c.args.command.now ∷ [])
    (record { lines = c.args.lines.now.items; count = g.B.Bench.count c.args.bench.now; log = g.B.Bench.log c.args.bench.now })
    (record { lines = c.command.new.lines.items; count = g.B.Bench.count c.command.new.bench; log = g.B.Bench.log c.command.new.bench }))
    c.open.ensures.opens c.in_err-command.ensures.so_far))

pub returns-clause-so_far : goal.returns-clause-so_far
unfolding moments_of_round
returns-clause-so_far g c =
    let m : Meaning g.row.P.Denot = record { calc = g.B.Bench.calc c.args.bench.now; at = g.P.Picker.at; after = g.P.Picker.after } in
    let first = subst (λ (r : Running g.row.P.Denot). Does g.row.P.Denot (course_of m r c.args.command.now) c.command.new.self
    (record { lines = c.args.lines.now.items; count = g.B.Bench.count c.args.bench.now; log = g.B.Bench.log c.args.bench.now })
    (record { lines = c.command.new.lines.items; count = g.B.Bench.count c.command.new.bench; log = g.B.Bench.log c.command.new.bench }))
    c.open.ensures.opens c.in_ok-command.ensures.ok in
    let same = ap (λ (r : Running g.row.P.Denot). runs_left r.round) first.next ∙ done_left m (opened c.args.self.now) c.args.command.now in
    let eight = opened_left c.args.self.now in
    on_err_weaker c.run_all.result (λ each. halts_then m (opened c.args.self.now) c.command.new.self c.args.command.now
    (moments_of_runs m (most_runs c.args.self.now) (course_of m (opened c.args.self.now) c.args.command.now).next) _ _ _ first
    (subst (λ (r : Running g.row.P.Denot). HaltsIn m.calc (moments_of_runs m (most_runs c.args.self.now) r)
    (record { lines = c.command.new.lines.items; count = g.B.Bench.count c.command.new.bench; log = g.B.Bench.log c.command.new.bench })
    (record { lines = c.run_all.new.lines.items; count = g.B.Bench.count c.run_all.new.bench; log = g.B.Bench.log c.run_all.new.bench })) first.next
    (subst (λ (k : Calc). HaltsIn k (moments_of_runs (record m { calc = k }) (most_runs c.args.self.now) c.command.new.self)
    (record { lines = c.command.new.lines.items; count = g.B.Bench.count c.command.new.bench; log = g.B.Bench.log c.command.new.bench })
    (record { lines = c.run_all.new.lines.items; count = g.B.Bench.count c.run_all.new.bench; log = g.B.Bench.log c.run_all.new.bench }))
    c.command.ensures.same (each (most_runs c.args.self.now) (omega arith))))) c.run_all.ensures.so_far
