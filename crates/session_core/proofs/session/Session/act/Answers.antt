use Rattle.std.proofs.Common.{◌∙◌, ap}
use Rattle.session_model.specs.Standing.{Standing}
use Rattle.session_model.specs.Resolve.{resolve}
use Rattle.session_model.specs.Turn.{turn}
use Rattle.session_core.proofs.Turns.{found_kept}
use Rattle.session_core.proofs.session.Session.act.Goals as goal

pub returns-in-Ok-clause-names : goal.returns-in-Ok-clause-names
unfolding turn
returns-in-Ok-clause-names g c =
    ap (λ (p : Standing). p.names) c.in-Ok.ensures.acts.next
    ∙ (found_kept (g.B.Bench.calc c.args.bench.now) c.args.self.now c.args.command.now (resolve c.args.self.now c.args.command.now)).1

pub returns-in-Ok-clause-actions : goal.returns-in-Ok-clause-actions
unfolding turn
returns-in-Ok-clause-actions g c =
    ap (λ (p : Standing). p.actions) c.in-Ok.ensures.acts.next
    ∙ (found_kept (g.B.Bench.calc c.args.bench.now) c.args.self.now c.args.command.now (resolve c.args.self.now c.args.command.now)).2

pub returns-in-Ok-clause-stopped : goal.returns-in-Ok-clause-stopped
unfolding turn
returns-in-Ok-clause-stopped g c =
    ap (λ (p : Standing). p.stopped) c.in-Ok.ensures.acts.next
    ∙ (found_kept (g.B.Bench.calc c.args.bench.now) c.args.self.now c.args.command.now (resolve c.args.self.now c.args.command.now)).0
    ∙ c.requires.running
