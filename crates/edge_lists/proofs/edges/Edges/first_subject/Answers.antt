use Rattle.std.proofs.Common.{◌∙◌, ap, List, Option}
use Rattle.edge_lists.specs.declared.edge.Heads.{Heads}
use Rattle.edge_lists.specs.declared.edge.Side.TheVariants.{Observer}
use Rattle.edge_lists.specs.Ends.{first_of, heads_at}
use Rattle.edge_lists.proofs.Walking.{gives_all}
use Rattle.edge_lists.proofs.edges.Edges.first_subject.Goals as goal

pub returns : goal.returns
returns c = rw (← c.self.view_is)
    (gives_all Observer c.self.inside.slots.slots c.self.inside.nodes.items (c.self.invariant.0.chained Observer)
    c.self.invariant.0.once c.args.node c.first_at.result
    (c.first_at.ensures ∙ ap (λ (n : List (Option Heads)). first_of Observer (heads_at n c.args.node))
    c.deref.ensures.value))
