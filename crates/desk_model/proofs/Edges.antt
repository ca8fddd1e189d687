-- The edges of an object are its inputs, and `today` for the terms that observe it.
use Rattle.std.proofs.Common.{◌≡◌, ◌≢◌, ◌⊎◌, inl, inr, ℕ, Bool, true, false, List, [], ◌∷◌, Some, refl, sym, ◌∙◌}
use Rattle.std.specs.Prelude.{◌==◌, if◌then◌else◌}
use Rattle.std.proofs.lemmas.Bool.{cases_eq, eqb-true, eqb-false}
use Rattle.walks.specs.Walk.{Among}
use Rattle.desk_terms.specs.declared.terms.Terms.{Terms}
use Rattle.desk_terms.specs.Terms.{inputs_of, observes_today}
use Rattle.desk_model.specs.Market.{without, each_once, named, edges_of}

-- a list without a number has the others
pub without_other : (x y : ℕ) (ys : List ℕ) → x ≢ y → Among x ys → Among x (without y ys)
without_other x y [] other among = among
without_other x y (z ∷ ys) other among = by_same (y == z) refl among (λ more. without_other x y ys other more)
  where
    by_same : (b : Bool) → (y == z) ≡ b → Among x (z ∷ ys) → (Among x ys → Among x (without y ys))
        → Among x (if b then without y ys else z ∷ without y ys)
    by_same true same (inl is) more = absurd (other (is ∙ sym (eqb-true y z same)))
    by_same true same (inr among) more = more among
    by_same false same (inl is) more = inl is
    by_same false same (inr among) more = inr (more among)

pub without_fewer : (x y : ℕ) (ys : List ℕ) → Among x (without y ys) → Among x ys
without_fewer x y [] among = among
without_fewer x y (z ∷ ys) among = by_same (y == z) among (λ more. without_fewer x y ys more)
  where
    by_same : (b : Bool) → Among x (if b then without y ys else z ∷ without y ys)
        → (Among x (without y ys) → Among x ys) → Among x (z ∷ ys)
    by_same true among more = inr (more among)
    by_same false (inl is) more = inl is
    by_same false (inr among) more = inr (more among)

-- each number stands in the list of each once
pub once_among : (x : ℕ) (xs : List ℕ) → Among x xs → Among x (each_once xs)
once_among x (y ∷ xs) (inl is) = inl is
once_among x (y ∷ xs) (inr among) = elim (cases_eq x y) [
  | inl same ↦ inl same
  | inr other ↦ inr (without_other x y (each_once xs) other (once_among x xs among))
]
once_among x [] among = among

pub among_once : (x : ℕ) (xs : List ℕ) → Among x (each_once xs) → Among x xs
among_once x [] among = among
among_once x (y ∷ xs) (inl is) = inl is
among_once x (y ∷ xs) (inr among) = inr (among_once x xs (without_fewer x y (each_once xs) among))

-- an input is an edge
pub input_edge : (terms : Terms) (x : ℕ) → Among x (named (inputs_of terms)) → Among x (edges_of (Some terms))
input_edge terms x among = by_day (observes_today terms)
  where
    by_day : (b : Bool) → Among x (each_once (if b then 0 ∷ named (inputs_of terms) else named (inputs_of terms)))
    by_day true = once_among x (0 ∷ named (inputs_of terms)) (inr among)
    by_day false = once_among x (named (inputs_of terms)) among

-- `today` is an edge of the terms that observe it
pub today_edge : (terms : Terms) → observes_today terms ≡ true → Among 0 (edges_of (Some terms))
today_edge terms is = by_day (observes_today terms) is
  where
    by_day : (b : Bool) → b ≡ true
        → Among 0 (each_once (if b then 0 ∷ named (inputs_of terms) else named (inputs_of terms)))
    by_day true is = once_among 0 (0 ∷ named (inputs_of terms)) (inl refl)
    by_day false is = absurd (cc)

-- an edge is `today` or an input
pub edge_input : (terms : Terms) (x : ℕ) → Among x (edges_of (Some terms)) → (x ≡ 0) ⊎ Among x (named (inputs_of terms))
edge_input terms x among = by_day (observes_today terms) among
  where
    by_day : (b : Bool) → Among x (each_once (if b then 0 ∷ named (inputs_of terms) else named (inputs_of terms)))
        → (x ≡ 0) ⊎ Among x (named (inputs_of terms))
    by_day true among = among_once x (0 ∷ named (inputs_of terms)) among
    by_day false among = inr (among_once x (named (inputs_of terms)) among)

-- a list without a number does not have it
pub without_gone : (x y : ℕ) (ys : List ℕ) → Among x (without y ys) → x ≢ y
without_gone x y [] among = absurd among
without_gone x y (z ∷ ys) among = by_same (y == z) refl among (λ more. without_gone x y ys more)
  where
    by_same : (b : Bool) → (y == z) ≡ b → Among x (if b then without y ys else z ∷ without y ys)
        → (Among x (without y ys) → x ≢ y) → x ≢ y
    by_same true is among more = more among
    by_same false is (inl same) more = λ (e : x ≡ y). eqb-false y z is (sym e ∙ same)
    by_same false is (inr among) more = more among
