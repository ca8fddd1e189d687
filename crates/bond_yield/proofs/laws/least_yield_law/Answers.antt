use Rattle.bond_yield.proofs.YieldLemmas.{one_yield, unit_below}
use Rattle.bond_yield.proofs.laws.least_yield_law.Goals as goal

pub returns-clause-one : goal.returns-clause-one
returns-clause-one c = one_yield

pub returns-clause-below : goal.returns-clause-below
returns-clause-below c = unit_below
