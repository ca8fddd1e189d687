use Rattle.std.proofs.Common.{sym, ap, subst, refl}
use Rattle.desk_model.specs.State.{State}
use Rattle.desk_model.specs.Sound.{IsSound}
use Rattle.session_model.specs.Standing.{Standing}
use Rattle.session_model.specs.Course.{Running, opened}
use Rattle.session_core.proofs.Alike.{names_stay}
use Rattle.session_rounds.proofs.Fitting.{fits_opened}
use Rattle.session_rounds.proofs.Hearing.{forgotten}
use Rattle.session_rounds.proofs.session.WatchedSession.open.Goals as goal

pub invariant_of-session : goal.invariant_of-session
invariant_of-session g c = names_stay _ c.session.inside.of_name.items c.session.inside.live c.forget_notices.new.desk
    (ap (λ (s : State). s.market) c.forget_notices.ensures.drained) c.session.invariant

pub invariant_of-self : goal.invariant_of-self
invariant_of-self g c =
    let left = forgotten _ c.self.inside.session c.forget_notices.new.desk c.session.view_is c.forget_notices.ensures.drained in
    rw (left, c.begin.ensures) (
      fits_opened _ c.self.inside.rounds.nodes _ c.self.invariant.0 refl refl (λ is. is) c.self.invariant.0.known,
      (λ on. tt, λ on. ap (λ (s : State). s.noticed) c.forget_notices.ensures.drained),
    )

pub returns-clause-opens : goal.returns-clause-opens
unfolding opened
returns-clause-opens g c =
    let left = forgotten _ c.self.inside.session c.forget_notices.new.desk c.session.view_is c.forget_notices.ensures.drained in
    rw (left, c.begin.ensures, ← c.self.view_is, c.self.invariant.0.counted) refl

pub returns-clause-sound : goal.returns-clause-sound
returns-clause-sound g c = λ calc is. c.forget_notices.ensures.sound calc
    (subst (λ (p : Standing). IsSound calc p.state) (sym c.session.view_is)
    (subst (λ (r : Running g.row.P.Denot). IsSound calc r.standing.state) (sym c.self.view_is) is))
