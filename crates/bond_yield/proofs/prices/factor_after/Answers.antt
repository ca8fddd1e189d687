use Rattle.std.proofs.Common.{refl}
use Rattle.bond_yield.specs.Price.{factor_after}
use Rattle.bond_yield.proofs.prices.factor_after.Goals as goal

pub returns-clause-value : goal.returns-clause-value
unfolding factor_after
returns-clause-value c = rw c.from.ensures refl
