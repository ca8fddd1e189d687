-- Numbers below a bound, each once, are no more than the bound.
use Rattle.std.proofs.Common.{◌≡◌, ◌≢◌, ◌⊎◌, inl, inr, ℕ, zero, suc, ◌<◌, ◌≤◌, List, [], ◌∷◌, length, refl, sym, ap, ◌∙◌, subst, arith}
use Rattle.std.proofs.lemmas.Bool.{cases_eq}
use Rattle.walks.specs.Walk.{Among, IsOnce}

pub is_among : (x : ℕ) (xs : List ℕ) → Among x xs ⊎ (Among x xs → ⊥)
is_among x [] = inr (λ a. a)
is_among x (y ∷ xs) = elim (cases_eq x y) [
  | inl same ↦ inl (inl same)
  | inr other ↦ elim (is_among x xs) [
    | inl a ↦ inl (inr a)
    | inr none ↦ inr (λ a. elim a [ inl same ↦ other same | inr rest ↦ none rest ])
  ]
]

-- the list without one of its numbers
Less : ℕ → List ℕ → Type 0
Less n xs = (ys : List ℕ) × ((length xs ≡ suc (length ys)) × IsOnce ys × ((x : ℕ) → Among x ys → Among x xs × (x ≢ n)))

taken : (n : ℕ) (xs : List ℕ) → IsOnce xs → Among n xs → Less n xs
unfolding Less
taken n [] once a = absurd a
taken n (y ∷ xs) once (inl same) =
    (xs, (refl, once.1, λ x b. (inr b, λ e. once.0 (subst (λ (z : ℕ). Among z xs) (e ∙ same) b))))
taken n (y ∷ xs) once (inr a) =
    let less = taken n xs once.1 a in (
      y ∷ less.0,
      (
        ap suc less.1.0,
        ((λ b. once.0 (less.1.2 y b).0), less.1.1),
        λ x b. elim b [
          | inl same ↦ (inl same, λ e. once.0 (subst (λ (z : ℕ). Among z xs) (sym e ∙ same) a))
          | inr rest ↦ let was = less.1.2 x rest in (inr was.0, was.1)
        ],
      ),
    )

pub few_below : (n : ℕ) (xs : List ℕ) → IsOnce xs → ((x : ℕ) → Among x xs → x < n) → length xs ≤ n
unfolding Less
few_below zero [] once low = omega arith
few_below zero (x ∷ xs) once low = let l = low x (inl refl) in omega arith
few_below (suc n) xs once low = elim (is_among n xs) [
  | inl a ↦
      let less = taken n xs once a in
      let few = few_below n less.0 less.1.1 (λ x b. let was = less.1.2 x b in let l = low x was.0 in let o = was.1 in
      omega arith) in
      let len = less.1.0 in omega arith
  | inr none ↦
      let few = few_below n xs once (λ x b. let l = low x b in
      let o : x ≢ n = λ e. none (subst (λ (z : ℕ). Among z xs) e b) in omega arith) in
      omega arith
]
