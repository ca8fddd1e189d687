-- Parts that are in range, and parts that are not.
use Rattle.std.specs.Prelude.{◌≡◌, ℕ, List, [], ◌∷◌, length, ℤ, pos, neg_ℤ}
use Rattle.desk_terms.specs.declared.terms.Part.{Part}
use Rattle.desk_terms.specs.declared.terms.Terms.TheVariants.{Composite}
use Rattle.desk_terms.specs.Reading.{AreInRange}

abbrev pub part : ℤ → ℕ → Part
part weight member = record { weight = weight; member = member }

pub record ArePartsWorked : Type 0 where
  pub no_part : AreInRange (Composite [])
  pub within : AreInRange (Composite (part (pos 1_000_000) 3 ∷ part (neg_ℤ (pos 1_000_000)) 4 ∷ part (pos 1) 0 ∷ []))
  pub weight_of_0 : AreInRange (Composite (part (pos 1) 3 ∷ part (pos 0) 4 ∷ [])) → ⊥
  pub weight_above : AreInRange (Composite (part (pos 1_000_001) 3 ∷ [])) → ⊥
  pub weight_below : AreInRange (Composite (part (pos 1) 4 ∷ part (neg_ℤ (pos 1_000_001)) 3 ∷ [])) → ⊥
  pub twice : AreInRange (Composite (part (pos 1) 3 ∷ part (pos 2) 4 ∷ part (pos 5) 3 ∷ [])) → ⊥
  pub too_many : (parts : List Part) → length parts ≡ 4097 → AreInRange (Composite parts) → ⊥
