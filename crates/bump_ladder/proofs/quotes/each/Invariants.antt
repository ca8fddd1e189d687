use Rattle.std.proofs.Common.{◌≡◌, ◌++◌, drop}
use Rattle.std.specs.Prelude.{map}
use Rattle.bump_model.specs.declared.ladder.Bump.TheVariants.{One}
use Rattle.bump_ladder.proofs.quotes.each.Given as goal

-- the quotes before the one at hand have their bumps
abbrev pub invariant-loop-quote : goal.invariant-loop-quote
invariant-loop-quote l = l.bumps.items ++ map One (drop l.quote-index l.quotes) ≡ map One l.quotes
