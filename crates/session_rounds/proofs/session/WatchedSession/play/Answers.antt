use Rattle.std.proofs.Common.{◌∙◌, [], ◌∷◌, refl, sym, ap, subst, arith}
use Rattle.std.specs.Prelude.{slice_index_or}
use Rattle.std.proofs.lemmas.Result.{err_from_is_err_and}
use Rattle.std.proofs.lemmas.Option.{slice_get_within}
use Rattle.desk_terms.specs.Reading.{Calc}
use Rattle.session_model.specs.Standing.{IsKnown}
use Rattle.session_model.specs.Course.{Running, Meaning, course_of, course_of_all}
use Rattle.session_model.specs.Moments.{moment_of, moments_of_all}
use Rattle.session_rounds.specs.Goes.{Does, Halts, Stays}
use Rattle.session_rounds.specs.Stopped.{HaltsIn}
use Rattle.session_rounds.proofs.Known.{known_at, at_first}
use Rattle.session_rounds.proofs.Going.{goes_start, stays_on}
use Rattle.session_rounds.proofs.Plays.{plays_on, plays_halt, plays_end}
use Rattle.session_rounds.proofs.Stopping.{leads_on, leads_halt}
use Rattle.session_rounds.proofs.session.WatchedSession.play.Goals as goal

pub loop-command-init : goal.loop-command-init
loop-command-init g c = record {
  same = refl;
  stays = record { names = refl; actions = refl; sound = c.requires.sound };
  running = c.requires.running;
  goes = goes_start _ _;
  leads = λ out_new halts. halts;
}

pub command-requires-clause-known : goal.command-requires-clause-known
command-requires-clause-known g c =
    subst (λ (r : Running g.row.P.Denot). IsKnown r.standing c.in-Some.command) c.self.view_is
    (known_at c.self.inside.session c.args.action c.loop-command.at c.in-Some.command c.self.invariant.0.known
    (sym c.command_at.ensures.at ∙ c.in-Some.is))

pub loop-command-smaller : goal.loop-command-smaller
loop-command-smaller g c =
    let is = at_first _ _ c.args.action c.loop-command.at c.command_at.result
    (ap (λ (r : Running g.row.P.Denot). r.standing.actions) c.self.view_is ∙ c.loop-command.invariant.stays.actions)
    c.command_at.ensures.at ∙ c.in-Some.is in
    let low = slice_get_within (slice_index_or c.args.self.now.standing.actions c.args.action []) c.loop-command.at c.in-Some.command is in omega arith

pub loop-command-preserved : goal.loop-command-preserved
loop-command-preserved g c =
    let m : Meaning g.row.P.Denot = record { calc = g.B.Bench.calc c.args.bench.now; at = g.P.Picker.at; after = g.P.Picker.after } in
    let is = at_first _ _ c.args.action c.loop-command.at c.command_at.result
    (ap (λ (r : Running g.row.P.Denot). r.standing.actions) c.self.view_is ∙ c.loop-command.invariant.stays.actions)
    c.command_at.ensures.at ∙ c.in-Some.is in
    let does = subst (λ (k : Calc). Does g.row.P.Denot (course_of (record m { calc = k }) c.loop-command.self c.in-Some.command) c.command.new.self
    (record { lines = c.loop-command.lines.items; count = g.B.Bench.count c.loop-command.bench; log = g.B.Bench.log c.loop-command.bench })
    (record { lines = c.command.new.lines.items; count = g.B.Bench.count c.command.new.bench; log = g.B.Bench.log c.command.new.bench }))
    c.loop-command.invariant.same c.in_ok-command.ensures.ok in
    let stays = subst (λ (k : Calc). Stays k c.loop-command.self.standing c.command.new.self.standing) c.loop-command.invariant.same c.command.ensures.stays in record {
      same = c.command.ensures.same ∙ c.loop-command.invariant.same;
      stays = stays_on _ c.args.self.now.standing c.loop-command.self.standing c.command.new.self.standing c.loop-command.invariant.stays stays;
      running = c.in_ok-command.ensures.running;
      goes = plays_on m (slice_index_or c.args.self.now.standing.actions c.args.action []) c.loop-command.at
          (course_of_all m (slice_index_or c.args.self.now.standing.actions c.args.action []) c.args.self.now) c.in-Some.command c.loop-command.self c.command.new.self
          _ _ _ c.loop-command.invariant.goes is does;
      leads = leads_on m (slice_index_or c.args.self.now.standing.actions c.args.action []) c.loop-command.at
          (moments_of_all m (slice_index_or c.args.self.now.standing.actions c.args.action []) c.args.self.now) c.in-Some.command c.loop-command.self c.command.new.self
          _ _ _ c.loop-command.invariant.leads is does;
    }

pub returns-in_err-command-clause-err : goal.returns-in_err-command-clause-err
returns-in_err-command-clause-err g c =
    let m : Meaning g.row.P.Denot = record { calc = g.B.Bench.calc c.args.bench.now; at = g.P.Picker.at; after = g.P.Picker.after } in
    let e = err_from_is_err_and c.from_residual.result c.from_residual.ensures.1 in
    let is = at_first _ _ c.args.action c.loop-command.at c.command_at.result
    (ap (λ (r : Running g.row.P.Denot). r.standing.actions) c.self.view_is ∙ c.loop-command.invariant.stays.actions)
    c.command_at.ensures.at ∙ c.in-Some.is in
    rw e.1 (plays_halt m (slice_index_or c.args.self.now.standing.actions c.args.action []) c.loop-command.at
    (course_of_all m (slice_index_or c.args.self.now.standing.actions c.args.action []) c.args.self.now) c.in-Some.command c.loop-command.self
    _ _ _ c.loop-command.invariant.goes is
    (subst (λ (k : Calc). Halts g.row.P.Denot (course_of (record m { calc = k }) c.loop-command.self c.in-Some.command)
    (record { lines = c.loop-command.lines.items; count = g.B.Bench.count c.loop-command.bench; log = g.B.Bench.log c.loop-command.bench })
    (record { lines = c.command.new.lines.items; count = g.B.Bench.count c.command.new.bench; log = g.B.Bench.log c.command.new.bench }))
    c.loop-command.invariant.same c.in_err-command.ensures.err))

pub returns-clause-ok : goal.returns-clause-ok
returns-clause-ok g c =
    let m : Meaning g.row.P.Denot = record { calc = g.B.Bench.calc c.args.bench.now; at = g.P.Picker.at; after = g.P.Picker.after } in
    let is = at_first _ _ c.args.action c.loop-command.at c.command_at.result
    (ap (λ (r : Running g.row.P.Denot). r.standing.actions) c.self.view_is ∙ c.loop-command.invariant.stays.actions)
    c.command_at.ensures.at ∙ c.in_default.is in
    plays_end m (slice_index_or c.args.self.now.standing.actions c.args.action []) c.loop-command.at
    (course_of_all m (slice_index_or c.args.self.now.standing.actions c.args.action []) c.args.self.now) c.loop-command.self
    _ _ c.loop-command.invariant.goes is

pub returns-in_err-command-clause-so_far : goal.returns-in_err-command-clause-so_far
returns-in_err-command-clause-so_far g c =
    let m : Meaning g.row.P.Denot = record { calc = g.B.Bench.calc c.args.bench.now; at = g.P.Picker.at; after = g.P.Picker.after } in
    let e = err_from_is_err_and c.from_residual.result c.from_residual.ensures.1 in
    let is = at_first _ _ c.args.action c.loop-command.at c.command_at.result
    (ap (λ (r : Running g.row.P.Denot). r.standing.actions) c.self.view_is ∙ c.loop-command.invariant.stays.actions)
    c.command_at.ensures.at ∙ c.in-Some.is in
    rw e.1 (leads_halt m (slice_index_or c.args.self.now.standing.actions c.args.action []) c.loop-command.at
    (moments_of_all m (slice_index_or c.args.self.now.standing.actions c.args.action []) c.args.self.now) c.in-Some.command c.loop-command.self
    _ _ _ c.loop-command.invariant.leads is
    (subst (λ (k : Calc). HaltsIn k (moment_of (record m { calc = k }) c.loop-command.self c.in-Some.command ∷ [])
    (record { lines = c.loop-command.lines.items; count = g.B.Bench.count c.loop-command.bench; log = g.B.Bench.log c.loop-command.bench })
    (record { lines = c.command.new.lines.items; count = g.B.Bench.count c.command.new.bench; log = g.B.Bench.log c.command.new.bench }))
    c.loop-command.invariant.same c.in_err-command.ensures.so_far))
