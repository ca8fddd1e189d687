use Rattle.std.proofs.Common.{option_copied}
use Rattle.cash_flow_legs.proofs.amounts.amount_of.Goals as goal

pub returns-in-None-clause-value : goal.returns-in-None-clause-value
returns-in-None-clause-value c = rw c.in-None.is (c.known_amount.ensures.value c.args.today (option_copied c.args.curve) c.args.owner)
