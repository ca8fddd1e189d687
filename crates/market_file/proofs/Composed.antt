-- Parts without a fault are within the limits of a composite.
use Rattle.std.proofs.Common.{◌≡◌, refl, subst, ◌+◌, Bool, true, false, not, if◌then◌else◌, List, [], ◌∷◌, ◌++◌, length, Option, Some, None}
use Rattle.std.proofs.lemmas.List.{append_assoc, append-nil}
use Rattle.desk_terms.specs.declared.terms.Part.{Part}
use Rattle.instrument_terms.specs.declared.faults.LimitFault.{LimitFault}
use Rattle.instrument_terms.specs.declared.faults.LimitFault.TheVariants.{Weight, Repeated}
use Rattle.instrument_terms.specs.Parts.{is_weight, has_member, part_fault, fault_or, first_fault}
use Rattle.instrument_terms.specs.Laws.{AreWithin}

-- where there is no fault, neither of two has one
first_none : (own other : Option LimitFault) → fault_or own other ≡ None → own ≡ None
first_none (Some fault) other is = absurd cc
first_none None other is = refl

other_none : (own other : Option LimitFault) → fault_or own other ≡ None → other ≡ None
other_none (Some fault) other is = absurd cc
other_none None other is = is

by_weight : (before : List Part) (part : Part) (w has : Bool) → (if not w then Some (Weight (length before + 1)) else (if has then Some (Repeated (length before + 1)) else None)) ≡ None → (w ≡ true) × (has ≡ false)
by_weight before part true true is = absurd cc
by_weight before part true false is = (refl, refl)
by_weight before part false has is = absurd cc

-- each part of some behind others is without a fault
each_none : (front before : List Part) (part : Part) (after : List Part) → first_fault front (before ++ part ∷ after) ≡ None → part_fault (front ++ before) part ≡ None
unfolding first_fault
each_none front [] part after none = rw (append-nil front) (first_none _ _ none)
each_none front (p ∷ before) part after none =
    subst (λ (ps : List Part). part_fault ps part ≡ None) (append_assoc front (p ∷ []) before) (each_none (front ++ p ∷ []) before part after (other_none _ _ none))

pub are_within : (parts : List Part) → first_fault [] parts ≡ None → AreWithin parts
are_within parts none before part after is =
    by_weight before part (is_weight part.weight) (has_member before part.member)
    (each_none [] before part after (subst (λ (ps : List Part). first_fault [] ps ≡ None) is none))
