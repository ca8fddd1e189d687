-- Stacks of objects of which each has a lower rank than those beneath it, and the measure of a walk with such a stack.
use Rattle.std.proofs.Common.{◌≡◌, inl, inr, ℕ, suc, ◌+◌, ◌*◌, ◌-◌, ◌<◌, ◌≤◌, List, [], ◌∷◌, ◌++◌, length, reverse, refl, sym, ap, arith}
use Rattle.std.proofs.lemmas.List.{reverse-append}
use Rattle.walks.specs.Walk.{Among}

-- each has a lower rank than those after it
abbrev pub Rising : (ℕ → ℕ) → List ℕ → Type 0
Rising rank [] = Unit {0}
Rising rank (x ∷ xs) = ((y : ℕ) → Among y xs → rank x < rank y) × Rising rank xs

rising_first : (rank : ℕ → ℕ) (n x : ℕ) (xs : List ℕ) → Rising rank (x ∷ xs) → ((y : ℕ) → Among y (x ∷ xs) → rank y < n) → rank x + length (x ∷ xs) ≤ n
rising_first rank n x [] rising low = let l = low x (inl refl) in omega arith
rising_first rank n x (y ∷ xs) rising low = let l = rising_first rank n y xs rising.1 (λ z among. low z (inr among)) in let f = rising.0 y (inl refl) in omega arith

pub rising_length : (rank : ℕ → ℕ) (n : ℕ) (xs : List ℕ) → Rising rank xs → ((y : ℕ) → Among y xs → rank y < n) → length xs ≤ n
rising_length rank n [] rising low = omega arith
rising_length rank n (x ∷ xs) rising low = let l = rising_first rank n x xs rising low in omega arith

pub turned : (stack : List ℕ) (x : ℕ) → reverse (stack ++ x ∷ []) ≡ x ∷ reverse stack
turned stack x = reverse-append stack (x ∷ [])

-- the measure falls: a push at the same values, a value with one place less on the stack
pub measure_push : (opens L a b : ℕ) → b ≡ a + 1 → a ≤ suc L → opens * (L + 3) + (L + 2 - b) < opens * (L + 3) + (L + 2 - a)
measure_push opens L a b is le = omega arith

pub measure_more : (opens L a b : ℕ) → a < b → a ≤ suc L → opens * (L + 3) + (L + 2 - b) < opens * (L + 3) + (L + 2 - a)
measure_more opens L a b more le = omega arith

pub measure_value : (opens after L a b : ℕ) → after + 1 ≡ opens → after * (L + 3) + (L + 2 - b) < opens * (L + 3) + (L + 2 - a)
measure_value opens after L a b is = let e : opens * (L + 3) ≡ (after + 1) * (L + 3) = ap (λ (n : ℕ). n * (L + 3)) (sym is) in omega arith
