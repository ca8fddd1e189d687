use Rattle.std.proofs.Common.{◌∙◌, List, Option, None, ap, arith, length, subst, sym}
use Rattle.std.specs.Prelude.{slice_index_or}
use Rattle.edge_lists.specs.EdgesView.{IsPair, subject_lists}
use Rattle.edge_lists.proofs.Linking as linking
use Rattle.observer_graph.specs.declared.node.Node.{Node}
use Rattle.observer_graph.specs.GraphView.{GraphView, IsLive, IsWatcher}
use Rattle.observer_graph.specs.Lists.{list_at}
use Rattle.observer_graph.specs.Notice.{IsLeast, IsUser}
use Rattle.observer_graph.proofs.Edges.{edge_pair, edge_plain, pair_edge}
use Rattle.observer_graph.proofs.Least.{least_as}
use Rattle.observer_graph.proofs.SubjectLists.{among_listed}
use Rattle.observer_graph.proofs.Wholes.{live_within}
use Rattle.observer_graph.proofs.graph.Graph.least_observer.Goals as goal

pub least_user_of-requires-clause-node : goal.least_user_of-requires-clause-node
least_user_of-requires-clause-node c = let given = c.self.invariant.0.given in
    let low = live_within c.self.inside.nodes.items c.args.node (subst (λ (v : GraphView). IsLive v c.args.node) (sym c.self.view_is) c.requires) in omega arith

pub least_user_of-requires-clause-within : goal.least_user_of-requires-clause-within
least_user_of-requires-clause-within c = λ o pair. let given = c.self.invariant.0.given in let value = ap length c.deref.ensures.value in
    let low = linking.live_within c.self.inside.edges.nodes o (c.self.invariant.0.pairs.ends c.args.node o pair).1 in omega arith

pub returns : goal.returns
returns c =
    let listed = among_listed c.self.inside.edges c.self.invariant.0.pairs c.args.node in
    subst (λ (v : GraphView). IsLeast (IsUser v c.args.node) c.least_user_of.result) c.self.view_is
    (least_as (λ o. IsPair c.self.inside.edges c.args.node o
    × (IsWatcher (slice_index_or c.self.inside.nodes.items o None) → ⊥)) _ c.least_user_of.result
    (λ o u. pair_edge (slice_index_or c.self.inside.nodes.items o None) (list_at (subject_lists c.self.inside.edges) o) c.args.node
    (sym (c.self.invariant.0.live o) ∙ (c.self.invariant.0.pairs.ends c.args.node o u.0).1) u.1 ((listed o).1 u.0))
    (λ o e. (
      (listed o).0 (edge_pair (slice_index_or c.self.inside.nodes.items o None) (list_at (subject_lists c.self.inside.edges) o) c.args.node e),
      edge_plain (slice_index_or c.self.inside.nodes.items o None) (list_at (subject_lists c.self.inside.edges) o) c.args.node e,
    ))
    (subst (λ (n : List (Option Node)). IsLeast (λ o. IsPair c.self.inside.edges c.args.node o
    × (IsWatcher (slice_index_or n o None) → ⊥)) c.least_user_of.result) c.deref.ensures.value c.least_user_of.ensures))
