use Rattle.std.proofs.Common.{◌≤◌, drop, length}
use Rattle.session_why.proofs.Worked.{Worked}
use Rattle.session_why.proofs.products.with_factors.Given as goal

-- the products of the flows before the one at hand are there, and the amounts of the others are left
abbrev pub invariant-loop-term : goal.invariant-loop-term
invariant-loop-term l = record {
  worked : Worked l.over (drop l.term-index l.over.terms.now.flows) (drop l.at l.list) l.products.items;
  count : length l.products.items ≤ l.term-index;
  at : l.at ≤ length l.list;
}
