use Rattle.std.proofs.Common.{ap, sym, ◌∙◌}
use Rattle.session_model.specs.Resolve.{resolve}
use Rattle.session_core.proofs.session.Session.resolve.Goals as goal

pub returns-in-Stock-clause-act : goal.returns-in-Stock-clause-act
unfolding resolve
returns-in-Stock-clause-act c = c.stock.ensures ∙ sym (ap (resolve c.args.self.now) c.in-Stock.is)
