use Rattle.std.proofs.Common.{None, Err, ◌∙◌, ap}
use Rattle.live_session.specs.Lines.{live_of}
use Rattle.pricing_session.specs.Speaking.{as_live}
use Rattle.pricing_session.specs.declared.fault.StepFault.{StepFault}
use Rattle.session_model.specs.Standing.{IsKnown}
use Rattle.desk_c.proofs.Progress.{progress_none, progress_next, progress_more, progress_done, progress_text, progress_fails, item_of}
use Rattle.desk_c.proofs.playing.play_all.Goals as goal

pub loop-command-init : goal.loop-command-init
loop-command-init c = progress_none c.args.commands.now (as_live c.args.session.now) c.args.text.now.items c.requires.running

pub loop-command-preserved : goal.loop-command-preserved
loop-command-preserved c =
    progress_more c.args.commands.now (as_live c.args.session.now) c.args.text.now.items c.command-item.result _ (as_live c.loop-command.session)
    (as_live c.step.new.self)
    (record { lines = c.loop-command.text.items; count = c.loop-command.session.bench.calls; log = None })
    (record { lines = c.step.new.lines.items; count = c.step.new.self.bench.calls; log = None })
    (progress_next c.args.commands.now (as_live c.args.session.now) c.args.text.now.items c.loop-command.command-index c.command-item.result
    (as_live c.loop-command.session) c.loop-command.text.items c.loop-command-test.true c.command-item.is c.loop-command.invariant)
    c.in-Ok.ensures.plays (ap (live_of c.step.new.self.running) c.step.ensures.beside) c.step.ensures.stays c.in-Ok.ensures.runs

pub returns-in-Err-clause-memory : goal.returns-in-Err-clause-memory
returns-in-Err-clause-memory c =
    progress_fails c.args.commands.now (as_live c.args.session.now) c.args.text.now.items _ c.command-item.result (as_live c.loop-command.session)
    c.loop-command.text.items c.loop-command.invariant
    (item_of (IsKnown c.args.session.now.running.standing) c.args.commands.now c.loop-command.command-index c.command-item.result
    c.loop-command-test.true c.command-item.is c.requires.known) _
    (λ is. c.step.ensures.stopped.0 (c.in-Err.is ∙ ap (λ (f : StepFault). Err f) is))
    (λ is. c.step.ensures.unknown.0 (c.in-Err.is ∙ ap (λ (f : StepFault). Err f) is))

pub returns-clause-plays : goal.returns-clause-plays
returns-clause-plays c =
    progress_done c.args.commands.now (as_live c.args.session.now) c.args.text.now.items c.loop-command.command-index (as_live c.loop-command.session)
    c.loop-command.text.items c.loop-command-test.false c.loop-command.invariant

pub returns-clause-text : goal.returns-clause-text
returns-clause-text c =
    progress_text c.args.commands.now (as_live c.args.session.now) c.args.text.now.items c.loop-command.command-index (as_live c.loop-command.session)
    c.loop-command.text.items c.loop-command-test.false c.loop-command.invariant
