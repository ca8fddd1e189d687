use Rattle.std.proofs.Common.{ap}
use Rattle.market_session.proofs.Started.{starts_known}
use Rattle.market_session.proofs.starting.begun.Goals as goal

pub returns-clause-known : goal.returns-clause-known
returns-clause-known g c =
    starts_known _ _ _ _ c.in_ok-session.session.standing _ (ap (λ r. r.standing) c.in_ok-session.ensures.begins)
    c.requires.whole.commands
