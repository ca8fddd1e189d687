use Rattle.std.proofs.Common.{ℕ, Option, sym, subst}
use Rattle.market_instruments.specs.Appended.{StayWithin}
use Rattle.market_instruments.proofs.swaps.push_float_side.Goals as goal

pub returns-clause-range : goal.returns-clause-range
returns-clause-range c =
    subst (λ (index : Option ℕ). StayWithin index c.args.out.now c.push_float.new.out) (sym c.in-Some.is) (c.push_float.ensures.range c.in-Some.index)
