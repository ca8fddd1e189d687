-- Lists of too few or too many words.
use Rattle.std.proofs.Common.{◌≡◌, ℕ, ◌<◌, ◌≤◌, List, [], ◌∷◌, length, map, refl, arith, None}
use Rattle.desk_words.specs.Words.{request_of}

pub too_few : {X : Type 0} (text : X → List ℕ) (words : List X) → length words < 2 → request_of (map text words) ≡ None
too_few text [] few = refl
too_few text (a ∷ []) few = refl
too_few text (a ∷ b ∷ words) few = absurd (omega (arith, few))

pub too_many : {X : Type 0} (text : X → List ℕ) (words : List X) → 6 ≤ length words → request_of (map text words) ≡ None
too_many text [] many = absurd (omega (arith, many))
too_many text (a ∷ []) many = absurd (omega (arith, many))
too_many text (a ∷ b ∷ []) many = absurd (omega (arith, many))
too_many text (a ∷ b ∷ c ∷ []) many = absurd (omega (arith, many))
too_many text (a ∷ b ∷ c ∷ d ∷ []) many = absurd (omega (arith, many))
too_many text (a ∷ b ∷ c ∷ d ∷ e ∷ []) many = absurd (omega (arith, many))
too_many text (a ∷ b ∷ c ∷ d ∷ e ∷ f ∷ words) many = refl
