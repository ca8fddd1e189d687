-- Lists that hold clones of the same items.
use Rattle.std.proofs.Common.{◌≡◌, List, [], ◌∷◌, map, refl, ◌∙◌, ap}
use Rattle.std.specs.List.{AllZip}

-- the items are the same where each clone is its source
same_items : {X : Type 0} (C : X → X → Type 0) → ((x y : X) → C x y → y ≡ x) → (xs ys : List X) → AllZip C xs ys → ys ≡ xs
same_items C is [] [] h = refl
same_items C is [] (y ∷ ys) h = absurd h
same_items C is (x ∷ xs) [] h = absurd h
same_items C is (x ∷ xs) (y ∷ ys) h = ap (λ z. z ∷ ys) (is x y h.0) ∙ ap (λ zs. x ∷ zs) (same_items C is xs ys h.1)

module _ {X V : Type 0} (C : X → X → Type 0) (is : (x y : X) → C x y → y ≡ x) (items : V → List X) (also : V → V → Type 0) where
  -- so are lists of such lists
  pub same_lists : (vs ws : List V) → AllZip (λ v w. AllZip C (items v) (items w) × also v w) vs ws → map items ws ≡ map items vs
  same_lists [] [] h = refl
  same_lists [] (w ∷ ws) h = absurd h
  same_lists (v ∷ vs) [] h = absurd h
  same_lists (v ∷ vs) (w ∷ ws) h =
      ap (λ one. one ∷ map items ws) (same_items C is (items v) (items w) h.0.0) ∙ ap (λ rest. items v ∷ rest) (same_lists vs ws h.1)
