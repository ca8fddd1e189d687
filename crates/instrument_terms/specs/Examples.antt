-- Terms that are worked out by hand.
use Rattle.std.specs.Prelude.{◌≡◌, ℕ, [], ◌∷◌, Some, None, Ok, Err, ℤ, pos, neg_ℤ}
use Rattle.desk_terms.specs.declared.terms.Part.{Part}
use Rattle.desk_terms.specs.declared.terms.Terms.TheVariants.{Composite}
use Rattle.instrument_terms.specs.declared.faults.LimitFault.TheVariants.{Weight, Repeated, NoFlow}
use Rattle.instrument_terms.specs.Parts.{composite_or_fault}
use Rattle.instrument_terms.specs.Flows.{flows_or_fault}

abbrev pub part : ℤ → ℕ → Part
part weight member = record { weight = weight; member = member }

pub record AreWorked : Type 0 where
  pub weight_of_0 : composite_or_fault (part (pos 1) 3 ∷ part (pos 0) 4 ∷ []) ≡ Err (Weight 2)
  pub weight_beyond : composite_or_fault (part (neg_ℤ (pos 1_000_001)) 3 ∷ []) ≡ Err (Weight 1)
  pub twice : composite_or_fault (part (pos 1) 3 ∷ part (pos 2) 3 ∷ []) ≡ Err (Repeated 2)
  pub weight_first : composite_or_fault (part (pos 1) 3 ∷ part (pos 0) 3 ∷ []) ≡ Err (Weight 2)
  pub first_part : composite_or_fault (part (pos 1) 3 ∷ part (pos 1) 3 ∷ part (pos 0) 4 ∷ []) ≡ Err (Repeated 2)
  pub within : composite_or_fault (part (pos 1_000_000) 3 ∷ part (neg_ℤ (pos 1_000_000)) 4 ∷ [])
      ≡ Ok (Composite (part (pos 1_000_000) 3 ∷ part (neg_ℤ (pos 1_000_000)) 4 ∷ []))
  pub no_part : composite_or_fault [] ≡ Ok (Composite [])
  pub no_flow : flows_or_fault [] None (Some 1) ≡ Err NoFlow
