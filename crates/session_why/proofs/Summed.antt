-- The sum of products, one behind another.
use Rattle.std.proofs.Common.{◌≡◌, ℕ, ℤ, pos, ◌+◌, ◌<◌, ◌≤◌, ◌+ℤ◌, List, ◌∷◌, length, get_or, drop, sym, ◌∙◌, ap, arith}
use Rattle.std.proofs.Math.IntN.{+ℤ_assoc}
use Rattle.std.proofs.lemmas.Int.{ints}
use Rattle.std.proofs.lemmas.List.{drop_more, drop_all}
use Rattle.why_model.specs.Workings.{FlowProduct, sum_of_flows}

nothing_behind : (z : ℤ) → z +ℤ pos 0 ≡ z
nothing_behind z = omega (arith, ints)

pub nothing_before : (z : ℤ) → pos 0 +ℤ z ≡ z
nothing_before z = omega (arith, ints)

module _ (flows : List FlowProduct) (at : ℕ) (sum whole : ℤ) (so_far : sum +ℤ sum_of_flows (drop at flows) ≡ whole)
  where
    pub sum_next : (x : FlowProduct) → at < length flows → x ≡ get_or flows at x
        → (sum +ℤ x.product) +ℤ sum_of_flows (drop (at + 1) flows) ≡ whole
    sum_next x within is =
        +ℤ_assoc sum x.product (sum_of_flows (drop (at + 1) flows))
        ∙ ap (λ (l : List FlowProduct). sum +ℤ sum_of_flows l)
        (sym (drop_more flows at x within ∙ ap (λ (y : FlowProduct). y ∷ drop (at + 1) flows) (sym is)))
        ∙ so_far

    pub sum_end : length flows ≤ at → sum ≡ whole
    sum_end past =
        sym (nothing_behind sum) ∙ ap (λ (l : List FlowProduct). sum +ℤ sum_of_flows l) (sym (drop_all at flows past))
        ∙ so_far
