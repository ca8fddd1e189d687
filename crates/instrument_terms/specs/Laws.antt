-- What is proved of the definitions.
use Rattle.std.specs.Prelude.{◌≡◌, ◌↔◌, true, false, List, [], ◌∷◌, ◌++◌, Some, None}
use Rattle.desk_terms.specs.declared.terms.Part.{Part}
use Rattle.desk_terms.specs.Parts.{AreEachInRange}
use Rattle.instrument_terms.specs.declared.faults.LimitFault.{LimitFault}
use Rattle.instrument_terms.specs.Parts.{is_weight, has_member, part_fault, first_fault}

-- the fault of a part by those before it, which have none
pub record IsFirstFault (parts : List Part) (fault : LimitFault) : Type 0 where
  pub before : List Part
  pub part : Part
  pub after : List Part
  pub order : parts ≡ before ++ part ∷ after
  pub own : part_fault before part ≡ Some fault
  pub none_before : first_fault [] before ≡ None

-- law: the fault of parts is that of the first part that has one
abbrev pub FaultIsTheFirst : Type 0
FaultIsTheFirst =
    (parts : List Part) (fault : LimitFault) → first_fault [] parts ≡ Some fault → IsFirstFault parts fault

-- each weight is within its limit, and no member stands in an earlier part
abbrev pub AreWithin : List Part → Type 0
AreWithin parts =
    (before : List Part) (part : Part) (after : List Part)
    → parts ≡ before ++ part ∷ after → (is_weight part.weight ≡ true) × (has_member before part.member ≡ false)

-- law: parts have no fault exactly where each weight is within its limit and no member stands twice
abbrev pub FaultlessPartsAreWithin : Type 0
FaultlessPartsAreWithin = (parts : List Part) → (first_fault [] parts ≡ None) ↔ AreWithin parts

-- law: such parts are those that are each in range
abbrev pub PartsWithinAreInRange : Type 0
PartsWithinAreInRange = (parts : List Part) → AreWithin parts ↔ AreEachInRange parts
