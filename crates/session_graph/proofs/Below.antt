-- One object more of a list by number.
use Rattle.std.proofs.Common.{◌≡◌, ℕ, suc, ◌+◌, List, [], ◌++◌, length, refl, sym, ◌∙◌, ap, arith}
use Rattle.desk_model.specs.Market.{kind_at}
use Rattle.desk_model.specs.State.{State}
use Rattle.session_model.specs.Standing.{Standing}
use Rattle.graph_dot.specs.declared.node.GraphNode.{GraphNode}
use Rattle.graph_dot.specs.declared.node.GraphEdge.{GraphEdge}
use Rattle.session_graph.specs.Edges.{registration_by, registrations_below, edges_by}
use Rattle.session_graph.specs.Graph.{node_by, nodes_below, edges_below}

pub nodes_none : (p : Standing) → nodes_below p 0 ≡ []
unfolding nodes_below
nodes_none p = refl

nodes_next : (p : Standing) (o : ℕ) → nodes_below p (o + 1) ≡ nodes_below p o ++ node_by p o (kind_at p.state.market o)
unfolding nodes_below
nodes_next p o = ap (nodes_below p) (let e : o + 1 ≡ suc o = omega arith in e)

pub nodes_more : (p q : Standing) (o : ℕ) (old new : List GraphNode) → q ≡ p → old ≡ nodes_below p o
    → new ≡ old ++ node_by q o (kind_at q.state.market o) → new ≡ nodes_below p (o + 1)
nodes_more p q o old new same so_far more =
    more ∙ ap (λ (s : Standing). old ++ node_by s o (kind_at s.state.market o)) same
    ∙ ap (λ (l : List GraphNode). l ++ node_by p o (kind_at p.state.market o)) so_far ∙ sym (nodes_next p o)

pub edges_none : (p : Standing) → edges_below p 0 ≡ []
unfolding edges_below
edges_none p = refl

edges_next : (p : Standing) (o : ℕ) → edges_below p (o + 1) ≡ edges_below p o ++ edges_by p.state (length p.of_object) o
unfolding edges_below
edges_next p o = ap (edges_below p) (let e : o + 1 ≡ suc o = omega arith in e)

pub edges_more : (p : Standing) (o numbers : ℕ) (state : State) (old new : List GraphEdge) → state ≡ p.state
    → numbers ≡ length p.of_object → old ≡ edges_below p o → new ≡ old ++ edges_by state numbers o
    → new ≡ edges_below p (o + 1)
edges_more p o numbers state old new is all so_far more =
    more ∙ ap (λ (s : State). old ++ edges_by s numbers o) is
    ∙ ap (λ (n : ℕ). old ++ edges_by p.state n o) all
    ∙ ap (λ (l : List GraphEdge). l ++ edges_by p.state (length p.of_object) o) so_far ∙ sym (edges_next p o)

pub registrations_none : (state : State) (w : ℕ) → registrations_below state w 0 ≡ []
unfolding registrations_below
registrations_none state w = refl

pub registrations_next : (state : State) (w o : ℕ)
    → registrations_below state w (o + 1) ≡ registrations_below state w o ++ registration_by state w o
unfolding registrations_below
registrations_next state w o = ap (registrations_below state w) (let e : o + 1 ≡ suc o = omega arith in e)
