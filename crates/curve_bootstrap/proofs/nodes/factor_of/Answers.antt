use Rattle.curve_bootstrap.proofs.CastLemmas.{cast_long}
use Rattle.curve_bootstrap.proofs.nodes.factor_of.Goals as goal

pub invariant_of-result : goal.invariant_of-result
invariant_of-result c = rw (cast_long c.args.root c.requires.low c.requires.high) (c.requires.low, c.requires.high)

pub returns : goal.returns
returns c = cast_long c.args.root c.requires.low c.requires.high
