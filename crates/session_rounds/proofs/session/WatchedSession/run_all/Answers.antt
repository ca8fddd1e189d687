use Rattle.std.proofs.Common.{◌≡◌, ◌+◌, ◌≤◌, ◌∙◌, ℕ, Some, refl, sym, ap, subst, arith}
use Rattle.std.proofs.lemmas.Result.{err_from_is_err_and}
use Rattle.desk_terms.specs.Reading.{Calc}
use Rattle.watch_rounds.specs.Round.{runs_left}
use Rattle.session_model.specs.Course.{Running, Meaning, course_of_all, begun, action_of, runs_by}
use Rattle.session_model.specs.Moments.{moments_of_all}
use Rattle.session_model.proofs.Ends.{all_done_left}
use Rattle.session_rounds.specs.Goes.{Does, Halts, Stays}
use Rattle.session_rounds.specs.Stopped.{HaltsIn}
use Rattle.session_rounds.proofs.Plays.{begun_is, nobody_is, nobody_runs, runs_start, runs_on, runs_end, runs_halt}
use Rattle.session_rounds.proofs.Stopping.{awaits_start, awaits_on, awaits_halt}
use Rattle.session_rounds.proofs.session.WatchedSession.run_all.Goals as goal

pub loop-watcher-init : goal.loop-watcher-init
loop-watcher-init g c =
    let m : Meaning g.row.P.Denot = record { calc = g.B.Bench.calc c.args.bench.now; at = g.P.Picker.at; after = g.P.Picker.after } in
    record {
      same = refl;
      stays = record { names = refl; actions = refl; sound = c.requires.sound };
      running = c.requires.running;
      idle = λ none. none;
      runs = runs_start m c.args.self.now _;
      awaits = awaits_start m c.args.self.now _;
    }

pub loop-watcher-smaller : goal.loop-watcher-smaller
loop-watcher-smaller g c =
    let m : Meaning g.row.P.Denot = record { calc = g.B.Bench.calc c.loop-watcher.bench; at = g.P.Picker.at; after = g.P.Picker.after } in
    let same = ap (λ (r : Running g.row.P.Denot). runs_left r.round) c.in_ok-run.ensures.ok.next
    ∙ all_done_left m (action_of c.begin_run.new.self.standing (Some c.in-Some.watcher)) c.begin_run.new.self in
    let falls = c.in-Some.ensures.left in omega arith

pub loop-watcher-preserved : goal.loop-watcher-preserved
unfolding begun
loop-watcher-preserved g c =
    let m : Meaning g.row.P.Denot = record { calc = g.B.Bench.calc c.args.bench.now; at = g.P.Picker.at; after = g.P.Picker.after } in
    let b = begun_is m c.loop-watcher.self c.begin_run.new.self c.in-Some.watcher c.begin_run.result c.in-Some.is c.begin_run.ensures.due c.begin_run.ensures.begun in
    let standing = ap (λ (r : Running g.row.P.Denot). r.standing) c.begin_run.ensures.begun in
    let falls = subst (λ (r : Running g.row.P.Denot). runs_left r.round + 1 ≡ runs_left c.loop-watcher.self.round) b.1 c.in-Some.ensures.left in
    let does = subst (λ (r : Running g.row.P.Denot). Does g.row.P.Denot (course_of_all m (action_of r.standing (Some c.in-Some.watcher)) r) c.run.new.self
    (record { lines = c.loop-watcher.lines.items; count = g.B.Bench.count c.loop-watcher.bench; log = g.B.Bench.log c.loop-watcher.bench })
    (record { lines = c.run.new.lines.items; count = g.B.Bench.count c.run.new.bench; log = g.B.Bench.log c.run.new.bench })) b.1
    (subst (λ (k : Calc). Does g.row.P.Denot (course_of_all (record m { calc = k }) (action_of c.begin_run.new.self.standing (Some c.in-Some.watcher)) c.begin_run.new.self) c.run.new.self
    (record { lines = c.loop-watcher.lines.items; count = g.B.Bench.count c.loop-watcher.bench; log = g.B.Bench.log c.loop-watcher.bench })
    (record { lines = c.run.new.lines.items; count = g.B.Bench.count c.run.new.bench; log = g.B.Bench.log c.run.new.bench }))
    c.loop-watcher.invariant.same c.in_ok-run.ensures.ok) in
    let stays = subst (λ (k : Calc). Stays k c.begin_run.new.self.standing c.run.new.self.standing) c.loop-watcher.invariant.same c.run.ensures.stays in record {
      same = c.run.ensures.same ∙ c.loop-watcher.invariant.same;
      stays = record {
        names = stays.names ∙ ap (λ p. p.names) standing ∙ c.loop-watcher.invariant.stays.names;
        actions = stays.actions ∙ ap (λ p. p.actions) standing ∙ c.loop-watcher.invariant.stays.actions;
        sound = stays.sound;
      };
      running = c.in_ok-run.ensures.running;
      idle = λ none. absurd (nobody_runs c.loop-watcher.self _ c.in-Some.watcher b.0 (c.loop-watcher.invariant.idle none));
      runs = runs_on m c.args.self.now c.loop-watcher.self c.run.new.self c.in-Some.watcher _ _ _ c.loop-watcher.invariant.runs b.0 falls does;
      awaits = awaits_on m c.args.self.now c.loop-watcher.self c.run.new.self c.in-Some.watcher _ _ _ c.loop-watcher.invariant.awaits b.0 falls does;
    }

pub returns-in_err-run-clause-err : goal.returns-in_err-run-clause-err
unfolding begun
returns-in_err-run-clause-err g c =
    let m : Meaning g.row.P.Denot = record { calc = g.B.Bench.calc c.args.bench.now; at = g.P.Picker.at; after = g.P.Picker.after } in
    let b = begun_is m c.loop-watcher.self c.begin_run.new.self c.in-Some.watcher c.begin_run.result c.in-Some.is c.begin_run.ensures.due c.begin_run.ensures.begun in
    let falls = subst (λ (r : Running g.row.P.Denot). runs_left r.round + 1 ≡ runs_left c.loop-watcher.self.round) b.1 c.in-Some.ensures.left in
    let halts = subst (λ (r : Running g.row.P.Denot). Halts g.row.P.Denot (course_of_all m (action_of r.standing (Some c.in-Some.watcher)) r)
    (record { lines = c.loop-watcher.lines.items; count = g.B.Bench.count c.loop-watcher.bench; log = g.B.Bench.log c.loop-watcher.bench })
    (record { lines = c.run.new.lines.items; count = g.B.Bench.count c.run.new.bench; log = g.B.Bench.log c.run.new.bench })) b.1
    (subst (λ (k : Calc). Halts g.row.P.Denot (course_of_all (record m { calc = k }) (action_of c.begin_run.new.self.standing (Some c.in-Some.watcher)) c.begin_run.new.self)
    (record { lines = c.loop-watcher.lines.items; count = g.B.Bench.count c.loop-watcher.bench; log = g.B.Bench.log c.loop-watcher.bench })
    (record { lines = c.run.new.lines.items; count = g.B.Bench.count c.run.new.bench; log = g.B.Bench.log c.run.new.bench }))
    c.loop-watcher.invariant.same c.in_err-run.ensures.err) in
    let e = err_from_is_err_and c.from_residual.result c.from_residual.ensures.1 in
    rw e.1 (runs_halt m c.args.self.now c.loop-watcher.self c.in-Some.watcher _ _ _ c.loop-watcher.invariant.runs b.0 falls halts)

pub returns-in_err-run-clause-ready : goal.returns-in_err-run-clause-ready
returns-in_err-run-clause-ready g c = λ none.
    let m : Meaning g.row.P.Denot = record { calc = g.B.Bench.calc c.args.bench.now; at = g.P.Picker.at; after = g.P.Picker.after } in
    let b = begun_is m c.loop-watcher.self c.begin_run.new.self c.in-Some.watcher c.begin_run.result c.in-Some.is c.begin_run.ensures.due c.begin_run.ensures.begun in
    absurd (nobody_runs c.loop-watcher.self _ c.in-Some.watcher b.0 (c.loop-watcher.invariant.idle none))

pub returns-clause-ok : goal.returns-clause-ok
returns-clause-ok g c =
    let m : Meaning g.row.P.Denot = record { calc = g.B.Bench.calc c.args.bench.now; at = g.P.Picker.at; after = g.P.Picker.after } in
    let same = nobody_is m c.loop-watcher.self c.begin_run.new.self c.in_default.ensures.none c.begin_run.ensures.begun in
    subst (λ (r : Running g.row.P.Denot). (k : ℕ) → runs_left c.args.self.now.round ≤ k → Does g.row.P.Denot (runs_by m k c.args.self.now) r
    (record { lines = c.args.lines.now.items; count = g.B.Bench.count c.args.bench.now; log = g.B.Bench.log c.args.bench.now })
    (record { lines = c.loop-watcher.lines.items; count = g.B.Bench.count c.loop-watcher.bench; log = g.B.Bench.log c.loop-watcher.bench })) (sym same)
    (runs_end m c.args.self.now c.loop-watcher.self _ _ c.loop-watcher.invariant.runs c.in_default.ensures.none)

pub returns-in_err-run-clause-so_far : goal.returns-in_err-run-clause-so_far
unfolding begun
returns-in_err-run-clause-so_far g c =
    let m : Meaning g.row.P.Denot = record { calc = g.B.Bench.calc c.args.bench.now; at = g.P.Picker.at; after = g.P.Picker.after } in
    let b = begun_is m c.loop-watcher.self c.begin_run.new.self c.in-Some.watcher c.begin_run.result c.in-Some.is c.begin_run.ensures.due c.begin_run.ensures.begun in
    let falls = subst (λ (r : Running g.row.P.Denot). runs_left r.round + 1 ≡ runs_left c.loop-watcher.self.round) b.1 c.in-Some.ensures.left in
    let halts = subst (λ (r : Running g.row.P.Denot). HaltsIn m.calc (moments_of_all m (action_of r.standing (Some c.in-Some.watcher)) r)
    (record { lines = c.loop-watcher.lines.items; count = g.B.Bench.count c.loop-watcher.bench; log = g.B.Bench.log c.loop-watcher.bench })
    (record { lines = c.run.new.lines.items; count = g.B.Bench.count c.run.new.bench; log = g.B.Bench.log c.run.new.bench })) b.1
    (subst (λ (k : Calc). HaltsIn k (moments_of_all (record m { calc = k }) (action_of c.begin_run.new.self.standing (Some c.in-Some.watcher)) c.begin_run.new.self)
    (record { lines = c.loop-watcher.lines.items; count = g.B.Bench.count c.loop-watcher.bench; log = g.B.Bench.log c.loop-watcher.bench })
    (record { lines = c.run.new.lines.items; count = g.B.Bench.count c.run.new.bench; log = g.B.Bench.log c.run.new.bench }))
    c.loop-watcher.invariant.same c.in_err-run.ensures.so_far) in
    let e = err_from_is_err_and c.from_residual.result c.from_residual.ensures.1 in
    rw e.1 (awaits_halt m c.args.self.now c.loop-watcher.self c.in-Some.watcher _ _ _ c.loop-watcher.invariant.awaits b.0 falls halts)
