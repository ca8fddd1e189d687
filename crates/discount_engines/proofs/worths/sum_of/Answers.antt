use Rattle.discount_engines.proofs.Products.{sum_is}
use Rattle.discount_engines.proofs.worths.sum_of.Goals as goal

pub overflow_add-result : goal.overflow_add-result
overflow_add-result c = (sum_is c.args.sum c.args.units c.requires.sum c.requires.units).fits

pub returns-clause-value : goal.returns-clause-value
returns-clause-value c = (sum_is c.args.sum c.args.units c.requires.sum c.requires.units).value

pub returns-clause-bound : goal.returns-clause-bound
returns-clause-bound c = let p = sum_is c.args.sum c.args.units c.requires.sum c.requires.units in rw p.value p.bound
