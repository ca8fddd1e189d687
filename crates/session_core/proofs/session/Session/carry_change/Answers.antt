use Rattle.session_core.proofs.Turns.{change_is}
use Rattle.session_core.proofs.session.Session.carry_change.Goals as goal

pub returns-clause-next : goal.returns-clause-next
returns-clause-next c = λ calc.
    rw c.in-Quiet.is (change_is calc c.args.self.now c.apply.new.self c.in-Quiet.change c.apply.ensures.set)
