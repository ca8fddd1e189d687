-- The limits of a composite's parts.
use Rattle.std.specs.Prelude.{ℕ, ◌+◌, ◌==◌, Bool, not, ◌&&◌, nat_le, if◌then◌else◌, List, [], ◌∷◌, ◌++◌, length, Option, Some, None, Result, Ok, Err, ℤ, pos, unsigned_abs}
use Rattle.std.specs.List.{list_any}
use Rattle.std.specs.Ordering.{int_eq}
use Rattle.desk_terms.specs.declared.terms.Part.{Part}
use Rattle.desk_terms.specs.declared.terms.Terms.{Terms}
use Rattle.desk_terms.specs.declared.terms.Terms.TheVariants.{Composite}
use Rattle.instrument_terms.specs.declared.composites.TheConstants.{MOST_WEIGHT}
use Rattle.instrument_terms.specs.declared.faults.LimitFault.{LimitFault}
use Rattle.instrument_terms.specs.declared.faults.LimitFault.TheVariants.{Weight, Repeated}

-- a weight that is not 0, and within its limit either way (this project's limit)
abbrev pub is_weight : ℤ → Bool
is_weight weight = not (int_eq weight (pos 0)) && nat_le (unsigned_abs weight) MOST_WEIGHT

-- a member stands in one of the parts
abbrev pub has_member : List Part → ℕ → Bool
has_member parts member = list_any (λ part. part.member == member) parts

-- the fault of a part behind others, counted from 1: its weight before its member (this project's profile)
abbrev pub part_fault : List Part → Part → Option LimitFault
part_fault before part =
    if not (is_weight part.weight) then Some (Weight (length before + 1))
    else (if has_member before part.member then Some (Repeated (length before + 1)) else None)

-- a fault that is there, else another
abbrev pub fault_or : Option LimitFault → Option LimitFault → Option LimitFault
fault_or (Some fault) other = Some fault
fault_or None other = other

-- the fault of the first part that has one, of parts behind others
unfoldable pub first_fault : List Part → List Part → Option LimitFault
first_fault before [] = None
first_fault before (part ∷ parts) = fault_or (part_fault before part) (first_fault (before ++ part ∷ []) parts)

-- a composite of parts, unless they have a fault
abbrev pub unless : Option LimitFault → List Part → Result Terms LimitFault
unless (Some fault) parts = Err fault
unless None parts = Ok (Composite parts)

-- a composite of parts, or the fault of the first part that has one
abbrev pub composite_or_fault : List Part → Result Terms LimitFault
composite_or_fault parts = unless (first_fault [] parts) parts
