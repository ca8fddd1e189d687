use Rattle.std.proofs.Common.{arith}
use Rattle.fixed_amount.proofs.Parts.{fraction_fault, fraction_none, fraction_read}
use Rattle.fixed_amount.proofs.read.read_fraction.Goals as goal

pub returns-then-count-text : goal.returns-then-count-text
returns-then-count-text c = λ digits _. fraction_fault c.args.at c.args.negative digits c.args.text.now c.args.places c.leading_number-count.result.0 c.leading_number-count.ensures.count (omega arith)

pub returns-then-count-eq0 : goal.returns-then-count-eq0
returns-then-count-eq0 c = λ digits _. fraction_none c.args.at c.args.negative digits c.args.text.now c.args.places (omega arith)

pub returns : goal.returns
returns c = λ digits whole.
    fraction_read c.args.at c.args.negative digits c.args.text.now c.args.places c.leading_number-count.result.0 c.leading_number-count.result.1 c.units.result c.leading_number-count.ensures.count (c.leading_number-count.ensures.number digits whole) (omega arith) (omega arith)
    (c.units.ensures digits)
