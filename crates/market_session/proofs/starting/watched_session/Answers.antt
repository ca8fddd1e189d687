use Rattle.std.proofs.Common.{◌∙◌, sym, ap, subst}
use Rattle.desk_model.specs.Sound.{IsSound}
use Rattle.session_model.specs.Standing.{Standing}
use Rattle.market_session.proofs.Started.{starts_running, starts_names, starts_actions, starts_acting}
use Rattle.market_session.proofs.starting.watched_session.Goals as goal

pub new-requires : goal.new-requires
new-requires g c = record {
  known = starts_acting _ _ _ _ c.in_ok-session.session c.in_ok-session.ensures.start c.requires.acting;
}

pub returns-clause-running : goal.returns-clause-running
returns-clause-running g c =
    ap (λ r. r.standing.stopped) c.in_ok-session-2.ensures.begins
    ∙ starts_running _ _ _ _ c.in_ok-session.session c.in_ok-session.ensures.start

pub returns-clause-names : goal.returns-clause-names
returns-clause-names g c =
    ap (λ r. r.standing.names) c.in_ok-session-2.ensures.begins
    ∙ starts_names _ _ _ _ c.in_ok-session.session c.in_ok-session.ensures.start

pub returns-clause-actions : goal.returns-clause-actions
returns-clause-actions g c =
    ap (λ r. r.standing.actions) c.in_ok-session-2.ensures.begins
    ∙ starts_actions _ _ _ _ c.in_ok-session.session c.in_ok-session.ensures.start

pub returns-clause-sound : goal.returns-clause-sound
returns-clause-sound g c = λ calc.
    subst (λ (p : Standing). IsSound calc p.state)
    (sym (ap (λ r. r.standing) c.in_ok-session-2.ensures.begins)) (c.in_ok-session.ensures.sound calc)
