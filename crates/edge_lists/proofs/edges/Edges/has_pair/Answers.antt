use Rattle.std.proofs.Common.{arith}
use Rattle.edge_lists.proofs.edges.Edges.has_pair.Goals as goal

pub returns-then-is_newer : goal.returns-then-is_newer
returns-then-is_newer c = rw (← c.self.view_is) (
  λ none. absurd (cc),
  λ pair.
      let most = c.self.invariant.4 c.args.subject c.args.observer pair in
      let less = c.is_newer.ensures c.if-is_newer.true in absurd (omega arith),
)
