-- A new node that observes others.
use Rattle.std.proofs.Common.{◌≡◌, inl, inr, ℕ, zero, suc, ◌<◌, List, [], ◌∷◌, length, take, refl, ◌∙◌, subst, arith}
use Rattle.std.specs.Prelude.{slice_index_or}
use Rattle.walks.specs.Walk.{Among, IsOnce}

-- the nodes before a place of a list in which each stands once
pub once_front : (xs : List ℕ) (at x d : ℕ) → IsOnce xs → at < length xs → slice_index_or xs at d ≡ x → Among x (take at xs) → ⊥
once_front [] at x d once low is a = absurd (omega arith)
once_front (y ∷ ys) zero x d once low is a = a
once_front (y ∷ ys) (suc at) x d once low is (inl same) = once.0 (subst (λ (z : ℕ). Among z ys) (is ∙ same) (there ys at d (omega arith)))
  where
    there : (xs : List ℕ) (i d : ℕ) → i < length xs → Among (slice_index_or xs i d) xs
    there [] i d low = absurd (omega arith)
    there (x ∷ xs) zero d low = inl refl
    there (x ∷ xs) (suc i) d low = inr (there xs i d (omega arith))
once_front (y ∷ ys) (suc at) x d once low is (inr a) = once_front ys at x d once.1 (omega arith) is a
