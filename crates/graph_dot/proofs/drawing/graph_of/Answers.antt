use Rattle.std.proofs.Common.{◌≡◌, ℕ, List, ◌++◌, ◌∙◌, ap}
use Rattle.graph_dot.specs.Dot.{graph_text}
use Rattle.graph_dot.specs.declared.texts.TheConstants.{HEAD}
use Rattle.graph_dot.proofs.drawing.graph_of.Goals as goal

joined : (head nodes edges foot one two three four : List ℕ) → one ≡ head → two ≡ one ++ nodes → three ≡ two ++ edges
    → four ≡ three ++ foot → four ≡ head ++ nodes ++ edges ++ foot
joined head nodes edges foot one two three four first second third last =
    last
    ∙ ap (λ (l : List ℕ). l ++ foot) (third ∙ ap (λ (l : List ℕ). l ++ edges) (second ∙ ap (λ (l : List ℕ). l ++ nodes) first))

pub returns : goal.returns
unfolding graph_text
returns c =
    joined _ _ _ _ _ _ _ _
    (c.in_ok-extend_from_slice.ensures.items ∙ ap (λ (l : List ℕ). l ++ HEAD.now) c.new-text.ensures.items)
    c.in_ok-push_nodes.ensures c.in_ok-push_edges.ensures c.in_ok-extend_from_slice-2.ensures.items
