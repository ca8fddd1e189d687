use Rattle.std.proofs.Common.{arith}
use Rattle.fixed_amount.proofs.Powers.{power_at, power_positive, power_bound}
use Rattle.fixed_amount.proofs.print.power_of_ten.Goals as goal

pub returns-clause-value : goal.returns-clause-value
returns-clause-value c = power_at c.args.places (omega (arith, c.requires))

pub returns-clause-positive : goal.returns-clause-positive
returns-clause-positive c = power_positive c.args.places (omega (arith, c.requires))

pub returns-clause-bound : goal.returns-clause-bound
returns-clause-bound c = power_bound c.args.places c.requires
