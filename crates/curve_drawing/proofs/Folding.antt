-- What the corners from a place on reach.
use Rattle.std.proofs.Common.{◌≡◌, ℕ, ℤ, ◌+◌, ◌-◌, ◌<◌, ◌≤◌, List, [], ◌∷◌, length, get_or, drop, min, max, sym, ◌∙◌, ap, arith}
use Rattle.std.proofs.lemmas.List.{drop_more, drop_all}
use Rattle.curve_drawing.specs.declared.points.Corner.{Corner}
use Rattle.curve_drawing.specs.Points.{earlier, first_day, days_from, span_from, lowest, highest}

-- no corner
no_corner : {B : Type 0} (f : List Corner → B) (corners : List Corner) → f [] ≡ f (drop (length corners) corners)
no_corner f corners = ap f (sym (drop_all (length corners) corners (omega arith)))

pub first_none : (today : ℤ) (corners : List Corner) → today ≡ first_day today (drop (length corners) corners)
unfolding first_day
first_none today corners = no_corner (first_day today) corners

pub span_none : (first : ℤ) (corners : List Corner) → 1 ≡ span_from first (drop (length corners) corners)
unfolding span_from
span_none first corners = no_corner (span_from first) corners

pub lowest_none : (other : ℕ) (corners : List Corner) → other ≡ lowest other (drop (length corners) corners)
unfolding lowest
lowest_none other corners = no_corner (lowest other) corners

pub highest_none : (other : ℕ) (corners : List Corner) → other ≡ highest other (drop (length corners) corners)
unfolding highest
highest_none other corners = no_corner (highest other) corners

-- one corner more
module _ (corners : List Corner) (left : ℕ) (x : Corner) (some : 0 < left) (within : left ≤ length corners) (is : x ≡ get_or corners (left - 1) x) where
  next_corner : {B : Type 0} (f : List Corner → B) → f (x ∷ drop left corners) ≡ f (drop (left - 1) corners)
  next_corner f =
      ap f (sym (drop_more corners (left - 1) x (omega (arith, some, within))
      ∙ ap (λ (y : Corner). y ∷ drop (left - 1 + 1) corners) (sym is)
      ∙ ap (λ (n : ℕ). x ∷ drop n corners) (let e : left - 1 + 1 ≡ left = omega (arith, some) in e)))

  pub first_more : (today old new : ℤ) → old ≡ first_day today (drop left corners) → new ≡ earlier (get_or corners (left - 1) x).day old
      → new ≡ first_day today (drop (left - 1) corners)
  unfolding first_day
  first_more today old new so_far more =
      more ∙ ap (λ (p : Corner). earlier p.day old) (sym is) ∙ ap (earlier x.day) so_far ∙ next_corner (first_day today)

  pub span_more : (first : ℤ) (days old new : ℕ) → days ≡ days_from first (get_or corners (left - 1) x).day → old ≡ span_from first (drop left corners)
      → new ≡ max days old → new ≡ span_from first (drop (left - 1) corners)
  unfolding span_from
  span_more first days old new far so_far more =
      more ∙ ap (λ (n : ℕ). max n old) (far ∙ ap (λ (p : Corner). days_from first p.day) (sym is))
      ∙ ap (max (days_from first x.day)) so_far ∙ next_corner (span_from first)

  pub lowest_more : (other units old new : ℕ) → units ≡ (get_or corners (left - 1) x).height → old ≡ lowest other (drop left corners)
      → new ≡ min units old → new ≡ lowest other (drop (left - 1) corners)
  unfolding lowest
  lowest_more other units old new far so_far more =
      more ∙ ap (λ (n : ℕ). min n old) (far ∙ ap (λ (p : Corner). p.height) (sym is))
      ∙ ap (min x.height) so_far ∙ next_corner (lowest other)

  pub highest_more : (other units old new : ℕ) → units ≡ (get_or corners (left - 1) x).height → old ≡ highest other (drop left corners)
      → new ≡ max units old → new ≡ highest other (drop (left - 1) corners)
  unfolding highest
  highest_more other units old new far so_far more =
      more ∙ ap (λ (n : ℕ). max n old) (far ∙ ap (λ (p : Corner). p.height) (sym is))
      ∙ ap (max x.height) so_far ∙ next_corner (highest other)
