-- What stands at the place of a member, and another weight there.
use Rattle.std.proofs.Common.{◌≡◌, ◌<◌, inl, inr, ℕ, zero, suc, Bool, true, false, cond, List, [], ◌∷◌, length, None, Some, ℤ, refl, sym, ◌∙◌, ap, subst, arith, get_or}
use Rattle.std.specs.Prelude.{◌==◌, if◌then◌else◌, ◌||◌, pos, slice_set}
use Rattle.std.specs.List.{list_any, position_or_len}
use Rattle.std.proofs.lemmas.Bool.{cases_Bool, eqb-true, false≢true}
use Rattle.std.proofs.lemmas.List.Quantifiers.{position-Some}
use Rattle.desk_names.proofs.NameLaws.{list_any-first}
use Rattle.desk_terms.specs.declared.terms.Part.{Part}
use Rattle.desk_terms.specs.Parts.{AreEachInRange}
use Rattle.desk_model.specs.Changeable.{weight_of, has_member, reweighted}
use Rattle.lazy_objects.specs.Places.{place_of}

-- whether there is a place
is_placed : (b : Bool) (n : ℕ) → cond b (Some n) None ≡ None → b ≡ false
is_placed true n none = absurd (let no : Some n ≡ None = none in cc)
is_placed false n none = refl

pub no_place : (parts : List Part) (member : ℕ) → place_of parts member ≡ None → has_member parts member ≡ false
no_place parts member none = list_any-first (λ part. part.member == member) parts ∙ is_placed _ _ none

pub placeless : (parts : List Part) (member : ℕ) → has_member parts member ≡ false → place_of parts member ≡ None
placeless parts member none =
    ap (λ (b : Bool). cond b (Some (position_or_len (λ part. part.member == member) parts)) None) (sym (list_any-first (λ part. part.member == member) parts) ∙ none)

pub has_placed : (parts : List Part) (member at : ℕ) → place_of parts member ≡ Some at → has_member parts member ≡ true
has_placed parts member at some = elim (cases_Bool (has_member parts member)) [
  | inl has ↦ has
  | inr none ↦ absurd (let no : None ≡ Some at = sym (placeless parts member none) ∙ some in cc)
]

module _ (member : ℕ) (d : Part) where
  -- who stands at a place weighs what stands there
  weighs_there : (parts : List Part) (at : ℕ) → at < length parts → ((get_or parts at d).member == member) ≡ true → ((k : ℕ) → k < at → ((get_or parts k d).member == member) ≡ false)
      → weight_of parts member ≡ (get_or parts at d).weight
  weighs_there [] at within is before = absurd (omega (arith, within))
  weighs_there (part ∷ parts) zero within is before = ap (λ (b : Bool). if b then part.weight else weight_of parts member) is
  weighs_there (part ∷ parts) (suc at) within is before =
      ap (λ (b : Bool). if b then part.weight else weight_of parts member) (before 0 (omega arith))
      ∙ weighs_there parts at (omega (arith, within)) is (λ k less. before (suc k) (omega (arith, less)))

  -- what no part has is reweighted nowhere
  reweighs_none : (parts : List Part) (weight : ℤ) → has_member parts member ≡ false → reweighted parts member weight ≡ parts
  reweighs_none [] weight none = refl
  reweighs_none (part ∷ parts) weight none = by_same (part.member == member) none (λ rest. reweighs_none parts weight rest)
    where
      by_same : (b : Bool) → (b || has_member parts member) ≡ false → (has_member parts member ≡ false → reweighted parts member weight ≡ parts)
          → (if b then record part { weight = weight } ∷ reweighted parts member weight else part ∷ reweighted parts member weight) ≡ part ∷ parts
      by_same true none rest = absurd (false≢true (sym none))
      by_same false none rest = ap (λ (l : List Part). part ∷ l) (rest none)

  -- another weight in the member's place
  reweighs_there : (parts : List Part) (at : ℕ) (weight : ℤ) → AreEachInRange parts → at < length parts → ((get_or parts at d).member == member) ≡ true → ((k : ℕ) → k < at → ((get_or parts k d).member == member) ≡ false)
      → slice_set parts at (record { weight = weight; member = member }) ≡ reweighted parts member weight
  reweighs_there [] at weight each within is before = absurd (omega (arith, within))
  reweighs_there (part ∷ parts) zero weight each within is before =
      let same = eqb-true part.member member is in
      let none = subst (λ (m : ℕ). list_any (λ later. later.member == m) parts ≡ false) same each.1.0 in
      ap (λ (m : ℕ). record { weight = weight; member = m } ∷ parts) (sym same)
      ∙ ap (λ (l : List Part). record part { weight = weight } ∷ l) (sym (reweighs_none parts weight none))
      ∙ ap (λ (b : Bool). if b then record part { weight = weight } ∷ reweighted parts member weight else part ∷ reweighted parts member weight) (sym is)
  reweighs_there (part ∷ parts) (suc at) weight each within is before =
      ap (λ (l : List Part). part ∷ l) (reweighs_there parts at weight each.1.1 (omega (arith, within)) is (λ k less. before (suc k) (omega (arith, less))))
      ∙ ap (λ (b : Bool). if b then record part { weight = weight } ∷ reweighted parts member weight else part ∷ reweighted parts member weight) (sym (before 0 (omega arith)))

module _ (parts : List Part) (member at : ℕ) (there : place_of parts member ≡ Some at) where
  pub place_within : at < length parts
  place_within = (position-Some (λ part. part.member == member) parts at (record { weight = pos 0; member = 0 }) there).0

  pub weight_there : (d : Part) → weight_of parts member ≡ (get_or parts at d).weight
  weight_there d = let found = position-Some (λ part. part.member == member) parts at d there in weighs_there member d parts at found.0 found.1 found.2

  pub set_there : (weight : ℤ) → AreEachInRange parts → slice_set parts at (record { weight = weight; member = member }) ≡ reweighted parts member weight
  set_there weight each =
      let d : Part = record { weight = weight; member = member } in
      let found = position-Some (λ part. part.member == member) parts at d there in
      reweighs_there member d parts at weight each found.0 found.1 found.2
