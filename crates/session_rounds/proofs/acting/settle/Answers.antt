use Rattle.std.proofs.Common.{List, sym, ap}
use Rattle.desk_model.specs.Told.{is_watching}
use Rattle.watch_rounds.specs.declared.rounds.DueWatcher.{DueWatcher}
use Rattle.watch_rounds.specs.Round.{RoundsView}
use Rattle.session_rounds.proofs.Passing.{all_pass}
use Rattle.session_rounds.proofs.acting.settle.Goals as goal

pub returns-then-settled-clause-undue : goal.returns-then-settled-clause-undue
returns-then-settled-clause-undue c =
    let all = c.requires c.if-settled.true in
    ap (λ (due : List DueWatcher). let v : RoundsView = record c.args.rounds.now { round = record c.args.rounds.now.round { due = due } } in v)
    (sym (all_pass (is_watching c.args.session.now.state) c.args.rounds.now.round.due all))

pub returns-then-settled-clause-watching : goal.returns-then-settled-clause-watching
returns-then-settled-clause-watching c = c.requires c.if-settled.true
