use Rattle.std.proofs.Common.{◌≡◌}
use Rattle.bump_model.specs.Quotes.{quotes_below}
use Rattle.bump_ladder.proofs.quotes.quotes_of.Given as goal

-- the quotes before the number at hand are found
abbrev pub invariant-loop-number : goal.invariant-loop-number
invariant-loop-number l = l.quotes ≡ quotes_below l.desk.market l.number
