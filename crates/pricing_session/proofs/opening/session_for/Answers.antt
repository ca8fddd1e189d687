use Rattle.market_session.proofs.Ready.{ready_more}
use Rattle.pricing_session.proofs.opening.session_for.Goals as goal

pub begun-requires-clause-ready : goal.begun-requires-clause-ready
begun-requires-clause-ready g c = ready_more _ _ _ c.requires.ready c.read.ensures.grows
