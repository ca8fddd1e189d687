use Rattle.std.proofs.Common.{[], refl, take, rules}
use Rattle.fixed_amount.specs.Decimal.{digit_count}
use Rattle.fixed_amount.proofs.read.read_whole.Goals as goal

pub returns : goal.returns
returns c =
    let text = c.args.text.now in
    let is = c.read_point.ensures (take (digit_count text) text) (c.leading_number-count.ensures.number [] refl) in
    search (rules, is)
