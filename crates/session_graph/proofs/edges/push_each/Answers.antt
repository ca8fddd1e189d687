use Rattle.std.proofs.Common.{ℕ, false, List, [], ◌∷◌, refl}
use Rattle.graph_dot.specs.declared.node.GraphEdge.{GraphEdge}
use Rattle.session_graph.specs.Edges.{edge, observed}
use Rattle.graph_dot.proofs.Appending.{parts_more, parts_end}
use Rattle.session_graph.proofs.edges.push_each.Goals as goal

-- the edge to one
abbrev one : ℕ → ℕ → List GraphEdge
one o x = edge false o x ∷ []

pub loop-subject-preserved : goal.loop-subject-preserved
loop-subject-preserved c =
    parts_more (one c.args.object) (observed c.args.object) (λ x xs. refl) c.args.subjects.now c.loop-subject.subject-index
    c.subject-item.result _ _ _ c.loop-subject-test.true c.subject-item.is c.in_ok-push_edge.ensures c.loop-subject.invariant

pub returns : goal.returns
returns c =
    parts_end (observed c.args.object) refl c.args.subjects.now c.loop-subject.subject-index _ _ c.loop-subject-test.false
    c.loop-subject.invariant
