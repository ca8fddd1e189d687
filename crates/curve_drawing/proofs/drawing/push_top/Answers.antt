use Rattle.std.proofs.Common.{◌≡◌, ℕ, List, ◌++◌, ◌∙◌, ap}
use Rattle.std.proofs.lemmas.List.{append_assoc}
use Rattle.curve_drawing.specs.Svg.{top_text}
use Rattle.curve_drawing.proofs.drawing.push_top.Goals as goal

joined : (old head title day one two new : List ℕ) → one ≡ old ++ head → two ≡ one ++ title → new ≡ two ++ day
    → new ≡ old ++ (head ++ title ++ day)
joined old head title day one two new first second third =
    third
    ∙ ap (λ (l : List ℕ). l ++ day) (second ∙ ap (λ (l : List ℕ). l ++ title) first ∙ append_assoc old head title)
    ∙ append_assoc old (head ++ title) day

pub returns : goal.returns
unfolding top_text
returns c =
    joined c.args.out.now.items _ _ _ _ _ _ c.in_ok-extend_from_slice.ensures.items
    (c.in_ok-extend_from_slice-2.ensures.items
    ∙ ap (λ (l : List ℕ). c.extend_from_slice.new.self.items ++ l) c.title_of.ensures)
    c.in_ok-print_day.ensures.ok
