use Rattle.std.proofs.Common.{arith}
use Rattle.bond_yield.specs.Price.{one}
use Rattle.bond_yield.proofs.FactorLemmas.{factors_fall, price_falls}
use Rattle.bond_yield.proofs.laws.price_falls_law.Goals as goal

pub returns-clause-factors : goal.returns-clause-factors
returns-clause-factors c = λ y z settle days k h. factors_fall y z h settle one one (omega arith) days k

pub returns-clause-price : goal.returns-clause-price
returns-clause-price c = price_falls
