use Rattle.std.proofs.Common.{◌≡◌, true, refl, sym, ◌∙◌, subst}
use Rattle.std.proofs.lemmas.Result.{err_from_is_err_and}
use Rattle.desk_terms.specs.Reading.{Calc}
use Rattle.desk_model.specs.Sound.{IsSound}
use Rattle.session_commands.specs.declared.command.Command.{Command}
use Rattle.session_model.specs.Standing.{IsKnown}
use Rattle.session_rounds.specs.Goes.{Stays}
use Rattle.tool_script.specs.Kinds.{is_move}
use Rattle.tool_script.proofs.Moved.{move_holds}
use Rattle.tool_script.specs.Course.{output}
use Rattle.tool_script.proofs.Steps.{progress_none, progress_next, progress_last, progress_more, progress_halts, progress_done, progress_known, going_more, item_of, does_of, halts_of}
use Rattle.tool_script.proofs.moving.move_all.Goals as goal

pub loop-command-init : goal.loop-command-init
loop-command-init g c = record {
  same = refl;
  progress = progress_none (g.B.Bench.calc c.args.bench.now) c.args.moves.now c.args.session.now
      (output c.args.lines.now.items (g.B.Bench.count c.args.bench.now) (g.B.Bench.log c.args.bench.now)) c.requires.going.running
      c.requires.going.sound;
  going = c.requires.going;
}

pub step-requires : goal.step-requires
step-requires g c =
    let calc = g.B.Bench.calc c.args.bench.now in
    let start = output c.args.lines.now.items (g.B.Bench.count c.args.bench.now) (g.B.Bench.log c.args.bench.now) in
    let now = output c.loop-command.lines.items (g.B.Bench.count c.loop-command.bench) (g.B.Bench.log c.loop-command.bench) in
    let p = c.loop-command.invariant.progress in
    record {
      running = p.running;
      known = progress_known calc c.args.moves.now c.args.session.now start _ c.command-item.result c.loop-command.session now p
          (item_of (IsKnown c.args.session.now.standing) c.args.moves.now c.loop-command.command-index c.command-item.result
          c.loop-command-test.true c.command-item.is c.requires.known);
      sound = subst (λ (k : Calc). IsSound k c.loop-command.session.standing.state) (sym c.loop-command.invariant.same) p.sound;
    }

pub loop-command-preserved : goal.loop-command-preserved
loop-command-preserved g c =
    let calc = g.B.Bench.calc c.args.bench.now in
    let start = output c.args.lines.now.items (g.B.Bench.count c.args.bench.now) (g.B.Bench.log c.args.bench.now) in
    let now = output c.loop-command.lines.items (g.B.Bench.count c.loop-command.bench) (g.B.Bench.log c.loop-command.bench) in
    let new = output c.step.new.lines.items (g.B.Bench.count c.step.new.bench) (g.B.Bench.log c.step.new.bench) in
    let same = c.loop-command.invariant.same in
    let does = does_of calc _ c.loop-command.session c.step.new.self c.command-item.result now new same c.in_ok-step.ensures.plays in
    let stays = subst (λ (k : Calc). Stays k c.loop-command.session.standing c.step.new.self.standing) same c.step.ensures.stays in
    record {
      same = c.step.ensures.same ∙ same;
      progress = progress_more calc c.args.moves.now c.args.session.now start c.command-item.result _ c.loop-command.session
          c.step.new.self now new
          (progress_next calc c.args.moves.now c.args.session.now start c.loop-command.command-index c.command-item.result
          c.loop-command.session now c.loop-command-test.true c.command-item.is c.loop-command.invariant.progress)
          does stays c.in_ok-step.ensures.stopped;
      going = going_more calc c.loop-command.session c.step.new.self c.command-item.result now new
          (move_holds c.command-item.result (item_of (λ (d : Command). is_move d ≡ true) c.args.moves.now c.loop-command.command-index
          c.command-item.result c.loop-command-test.true c.command-item.is c.requires.moves))
          c.loop-command.invariant.going does stays c.in_ok-step.ensures.stopped;
    }

pub returns-in_err-step-clause-halts : goal.returns-in_err-step-clause-halts
returns-in_err-step-clause-halts g c =
    let calc = g.B.Bench.calc c.args.bench.now in
    let start = output c.args.lines.now.items (g.B.Bench.count c.args.bench.now) (g.B.Bench.log c.args.bench.now) in
    let now = output c.loop-command.lines.items (g.B.Bench.count c.loop-command.bench) (g.B.Bench.log c.loop-command.bench) in
    let new = output c.step.new.lines.items (g.B.Bench.count c.step.new.bench) (g.B.Bench.log c.step.new.bench) in
    let from = c.from_residual in
    let p = err_from_is_err_and from.result from.ensures.1 in
    rw p.1 (progress_halts calc c.args.moves.now c.args.session.now start c.command-item.result _ c.loop-command.session now new
    (progress_next calc c.args.moves.now c.args.session.now start c.loop-command.command-index c.command-item.result
    c.loop-command.session now c.loop-command-test.true c.command-item.is c.loop-command.invariant.progress)
    (halts_of calc _ c.loop-command.session c.command-item.result now new c.loop-command.invariant.same c.in_err-step.ensures.halts))

pub returns-clause-does : goal.returns-clause-does
returns-clause-does g c =
    let calc = g.B.Bench.calc c.args.bench.now in
    let start = output c.args.lines.now.items (g.B.Bench.count c.args.bench.now) (g.B.Bench.log c.args.bench.now) in
    let now = output c.loop-command.lines.items (g.B.Bench.count c.loop-command.bench) (g.B.Bench.log c.loop-command.bench) in
    progress_done calc c.args.moves.now c.args.session.now start c.loop-command.session now
    (progress_last calc c.args.moves.now c.args.session.now start c.loop-command.command-index c.loop-command.session now
    c.loop-command-test.false c.loop-command.invariant.progress)
