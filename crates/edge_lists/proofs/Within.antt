-- Bounds of the observers, as pairs come and go.
use Rattle.std.proofs.Common.{◌≡◌, ◌⊎◌, inl, inr, ℕ, zero, suc, ◌<◌, ◌≤◌, List, [], ◌∷◌, ◌++◌, length, refl, sym, ap, subst, arith, Option, None, get_or, slice_set}
use Rattle.std.specs.Prelude.{max}
use Rattle.std.proofs.lemmas.Bool.{cases_eq}
use Rattle.std.proofs.lemmas.List.{get_or-set_same, get_or-set_other}
use Rattle.edge_lists.specs.declared.edge.Edge.{Edge}
use Rattle.edge_lists.specs.declared.edge.Side.TheVariants.{Subject}
use Rattle.edge_lists.specs.Ends.{node_of, slot_at}
use Rattle.edge_lists.specs.Stands.{IsPairIn, AreWithin}

-- a node more, of which none is an observer
get_more : (newest : List ℕ) (x : ℕ) → get_or (newest ++ 0 ∷ []) x 0 ≡ get_or newest x 0
get_more [] zero = refl
get_more [] (suc x) = refl
get_more (most ∷ newest) zero = refl
get_more (most ∷ newest) (suc x) = get_more newest x

pub within_grown : (slots : List (Option Edge)) (newest : List ℕ) → AreWithin slots newest
    → AreWithin slots (newest ++ 0 ∷ [])
within_grown slots newest within x o pair = subst (λ (n : ℕ). o ≤ n) (sym (get_more newest x)) (within x o pair)

slot_none : (k : ℕ) → slot_at [] k ≡ None
slot_none zero = refl
slot_none (suc k) = refl

pub within_none : (slots : List (Option Edge)) (newest : List ℕ) → slots ≡ [] → AreWithin slots newest
within_none slots newest none x o pair =
    let s = ap (λ (s : List (Option Edge)). node_of Subject (slot_at s pair.0)) none in
    let t = ap (node_of Subject) (slot_none pair.0) in let a = pair.1.subject in absurd (cc)

-- no pair is new
pub within_fewer : (old new : List (Option Edge)) (newest : List ℕ)
    → ((x o : ℕ) → IsPairIn new x o → IsPairIn old x o) → AreWithin old newest → AreWithin new newest
within_fewer old new newest each within x o pair = within x o (each x o pair)

module _ (newest : List ℕ) (subject observer : ℕ) (low : subject < length newest) where
  abbrev pub raised : List ℕ
  raised = slice_set newest subject (max (get_or newest subject 0) observer)

  here : get_or raised subject 0 ≡ max (get_or newest subject 0) observer
  here = get_or-set_same newest subject _ 0 low

  rises : (x : ℕ) → get_or newest x 0 ≤ get_or raised x 0
  rises x = elim (cases_eq x subject) [
    | inl same ↦ let e = here in subst (λ (z : ℕ). get_or newest z 0 ≤ get_or raised z 0) (sym same) (omega arith)
    | inr other ↦ let e = get_or-set_other newest subject x (max (get_or newest subject 0) observer) 0 other in omega arith
  ]

  -- one pair is new
  pub within_more : (old new : List (Option Edge))
      → ((x o : ℕ) → IsPairIn new x o → IsPairIn old x o ⊎ ((x ≡ subject) × (o ≡ observer)))
      → AreWithin old newest → AreWithin new raised
  within_more old new each within x o pair = elim (each x o pair) [
    | inl was ↦ let le = within x o was in let more = rises x in omega arith
    | inr is ↦ let e = here in
        subst (λ (z : ℕ). o ≤ get_or raised z 0) (sym is.0) (let same = is.1 in omega arith)
  ]
