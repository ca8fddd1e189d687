use Rattle.std.proofs.Common.{◌≡◌, ℕ, ◌++◌, drop, map}
use Rattle.desk_terms.specs.declared.terms.Terms.{Terms}
use Rattle.market_desk.specs.Making.{names_with}
use Rattle.market_desk.proofs.naming.names_of.Given as goal

-- the objects before the one at hand have their names
abbrev pub invariant-loop-name : goal.invariant-loop-name
invariant-loop-name l =
    l.names ++ map (λ (entry : ℕ × Terms). entry.0) (drop l.name-index l.made.items) ≡ names_with l.made.items
