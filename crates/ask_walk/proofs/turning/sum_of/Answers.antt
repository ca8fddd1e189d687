use Rattle.ask_walk.proofs.Products.{sum_is}
use Rattle.ask_walk.proofs.turning.sum_of.Goals as goal

pub overflow_add-result : goal.overflow_add-result
overflow_add-result c = (sum_is c.args.sum c.args.product c.requires.sum c.requires.product).fits

pub returns-clause-value : goal.returns-clause-value
returns-clause-value c = (sum_is c.args.sum c.args.product c.requires.sum c.requires.product).value

pub returns-clause-bound : goal.returns-clause-bound
returns-clause-bound c = let p = sum_is c.args.sum c.args.product c.requires.sum c.requires.product in rw p.value p.bound
