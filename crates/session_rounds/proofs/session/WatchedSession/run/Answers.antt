use Rattle.std.proofs.Common.{◌∙◌, sym}
use Rattle.session_model.specs.Course.{Meaning}
use Rattle.session_rounds.proofs.Plays.{plays_none}
use Rattle.session_rounds.proofs.session.WatchedSession.run.Goals as goal

pub returns-in-None-clause-ok : goal.returns-in-None-clause-ok
returns-in-None-clause-ok g c =
    let m : Meaning g.row.P.Denot = record { calc = g.B.Bench.calc c.args.bench.now; at = g.P.Picker.at; after = g.P.Picker.after } in
    plays_none m c.args.self.now c.args.watcher _ (sym c.action_of.ensures ∙ c.in-None.is)
