use Rattle.std.proofs.Common.{sym, subst}
use Rattle.session_model.specs.Course.{Running}
use Rattle.session_rounds.specs.Fits.{IsLive}
use Rattle.session_rounds.proofs.session.WatchedSession.action_of.Goals as goal

pub name_of-name-requires : goal.name_of-name-requires
name_of-name-requires g c =
    (c.watchers.ensures c.args.watcher
    (subst (λ (r : Running g.row.P.Denot). IsLive r.standing c.args.watcher) (sym c.self.view_is) c.requires)).listed
