use Rattle.std.proofs.Common.{refl, sym, ◌∙◌, subst}
use Rattle.std.proofs.lemmas.Result.{err_from_is_err_and}
use Rattle.desk_terms.specs.Reading.{Calc}
use Rattle.desk_model.specs.Sound.{IsSound}
use Rattle.session_model.specs.Standing.{IsKnown}
use Rattle.tool_script.proofs.LetGo.{letgo_none, letgo_next, letgo_more, letgo_halts, letgo_after, letgo_makes}
use Rattle.tool_script.proofs.Steps.{progress_known, item_of}
use Rattle.tool_script.proofs.playing.play_all.Goals as goal

pub loop-command-init : goal.loop-command-init
loop-command-init g c = record {
  same = refl;
  go = letgo_none (g.B.Bench.calc c.args.bench.now) c.args.commands.now c.args.session.now
      (g.B.Bench.count c.args.bench.now) (g.B.Bench.log c.args.bench.now) c.requires.running c.requires.sound;
}

pub step-requires : goal.step-requires
step-requires g c =
    let go = c.loop-command.invariant.go in
    let p = go.progress in
    record {
      running = p.running;
      known = progress_known (g.B.Bench.calc c.args.bench.now) c.args.commands.now c.args.session.now _ _ c.command-item.result
          c.loop-command.session _ p
          (item_of (IsKnown c.args.session.now.standing) c.args.commands.now c.loop-command.command-index c.command-item.result
          c.loop-command-test.true c.command-item.is c.requires.known);
      sound = subst (λ (k : Calc). IsSound k c.loop-command.session.standing.state) (sym c.loop-command.invariant.same) p.sound;
    }

pub loop-command-preserved : goal.loop-command-preserved
loop-command-preserved g c =
    let next = letgo_next _ _ _ _ _ c.loop-command.command-index c.command-item.result _ _ _ c.loop-command-test.true
    c.command-item.is c.loop-command.invariant.go in
    record {
      same = c.step.ensures.same ∙ c.loop-command.invariant.same;
      go = letgo_more _ _ _ _ _ _ _ _ _ _ next _ c.loop-command.invariant.same c.clear.new.self.items _ c.clear.ensures.items _ _
          c.step.new.self c.in_ok-step.ensures.plays c.step.ensures.stays c.in_ok-step.ensures.stopped;
    }

pub returns-in_err-step-clause-calls : goal.returns-in_err-step-clause-calls
returns-in_err-step-clause-calls g c =
    let next = letgo_next _ _ _ _ _ c.loop-command.command-index c.command-item.result _ _ _ c.loop-command-test.true
    c.command-item.is c.loop-command.invariant.go in
    let from = c.from_residual in
    let p = err_from_is_err_and from.result from.ensures.1 in
    rw p.1 (letgo_halts _ _ _ _ _ _ _ _ _ _ next _ c.loop-command.invariant.same c.clear.new.self.items _ c.clear.ensures.items _ _
    c.in_err-step.ensures.halts)

pub returns-in_err-step-clause-sound : goal.returns-in_err-step-clause-sound
returns-in_err-step-clause-sound g c =
    subst (λ (k : Calc). IsSound k c.step.new.self.standing.state) c.loop-command.invariant.same c.step.ensures.stays.sound

pub returns-clause-after : goal.returns-clause-after
returns-clause-after g c =
    letgo_after _ _ _ _ _ c.loop-command.command-index c.loop-command.session _ _ c.loop-command-test.false c.loop-command.invariant.go

pub returns-clause-calls : goal.returns-clause-calls
returns-clause-calls g c =
    letgo_makes _ _ _ _ _ c.loop-command.command-index c.loop-command.session _ _ c.loop-command-test.false c.loop-command.invariant.go

pub returns-clause-sound : goal.returns-clause-sound
returns-clause-sound g c = c.loop-command.invariant.go.progress.sound
