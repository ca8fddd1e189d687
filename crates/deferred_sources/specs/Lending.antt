-- The graph of a deferral, lent for writing.
use Rattle.std.specs.Borrow.{Lends, MutBor, Fml}
use Rattle.observer_graph.specs.GraphView.{GraphView}
use Rattle.observer_graph.specs.declared.graph.Graph.{Graph}
use Rattle.observer_graph.specs.contracts.graph.Graph as graph
use Rattle.deferred_sources.specs.declared.deferral.Deferral.{Deferral}
use Rattle.deferred_sources.specs.contracts.deferral.Deferral as deferral

-- the same deferral over another graph
abbrev pub with_graph : Deferral → GraphView → Deferral
with_graph held graph = record held { graph = graph }

-- the deferral ends with the graph that was left behind the result
abbrev pub LendsGraph : MutBor Deferral → MutBor Graph → Fml
LendsGraph held result = Lends deferral.the_row graph.the_row held result (with_graph held.now)
