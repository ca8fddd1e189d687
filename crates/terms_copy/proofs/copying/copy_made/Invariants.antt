use Rattle.std.proofs.Common.{◌≡◌, ◌++◌, drop}
use Rattle.terms_copy.proofs.copying.copy_made.Given as goal

-- the objects before the one at hand are copied
abbrev pub invariant-loop-name : goal.invariant-loop-name
invariant-loop-name l = l.copy.items ++ drop l.name-index l.made ≡ l.made
