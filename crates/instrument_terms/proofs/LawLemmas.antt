-- The laws of the first fault.
use Rattle.std.proofs.Common.{◌≡◌, refl, sym, ap, subst, ◌∙◌, ◌+◌, Bool, true, false, not, if◌then◌else◌, List, [], ◌∷◌, ◌++◌, length, Option, Some, None}
use Rattle.std.proofs.lemmas.List.{append_assoc, append-nil}
use Rattle.desk_terms.specs.declared.terms.Part.{Part}
use Rattle.instrument_terms.specs.declared.faults.LimitFault.{LimitFault}
use Rattle.instrument_terms.specs.declared.faults.LimitFault.TheVariants.{Weight, Repeated}
use Rattle.instrument_terms.specs.Parts.{is_weight, has_member, part_fault, fault_or, first_fault}
use Rattle.instrument_terms.specs.Laws.{FaultIsTheFirst, FaultlessPartsAreWithin}

-- the same behind parts in front
record IsFirstBehind (front parts : List Part) (fault : LimitFault) : Type 0 where
  before : List Part
  part : Part
  after : List Part
  order : parts ≡ before ++ part ∷ after
  own : part_fault (front ++ before) part ≡ Some fault
  none_before : first_fault front before ≡ None

-- one part in front moves behind the others
moved : (front : List Part) (part : Part) (before : List Part) → (front ++ part ∷ []) ++ before ≡ front ++ part ∷ before
moved front part before = append_assoc front (part ∷ []) before

by_fault : (front : List Part) (part : Part) (parts : List Part) (own : Option LimitFault) (fault : LimitFault) → part_fault front part ≡ own → fault_or own (first_fault (front ++ part ∷ []) parts) ≡ Some fault
    → ((first_fault (front ++ part ∷ []) parts ≡ Some fault) → IsFirstBehind (front ++ part ∷ []) parts fault) → IsFirstBehind front (part ∷ parts) fault
unfolding first_fault
by_fault front part parts (Some other) fault is there more = record {
  before = [];
  part = part;
  after = parts;
  order = refl;
  own = rw (append-nil front) (is ∙ there);
  none_before = refl;
}
by_fault front part parts None fault is there more =
    let rest = more there in
    record {
      before = part ∷ rest.before;
      part = rest.part;
      after = rest.after;
      order = ap (λ (ps : List Part). part ∷ ps) rest.order;
      own = subst (λ (ps : List Part). part_fault ps rest.part ≡ Some fault) (moved front part rest.before) rest.own;
      none_before = ap (λ (o : Option LimitFault). fault_or o (first_fault (front ++ part ∷ []) rest.before)) is ∙ rest.none_before;
    }

first_behind : (front parts : List Part) (fault : LimitFault) → first_fault front parts ≡ Some fault → IsFirstBehind front parts fault
unfolding first_fault
first_behind front [] fault there = absurd cc
first_behind front (part ∷ parts) fault there = by_fault front part parts (part_fault front part) fault refl there (λ rest. first_behind (front ++ part ∷ []) parts fault rest)

pub fault_is_the_first : FaultIsTheFirst
fault_is_the_first parts fault there =
    let first = first_behind [] parts fault there in
    record { before = first.before; part = first.part; after = first.after; order = first.order; own = first.own; none_before = first.none_before }

-- where there is no fault, neither of two has one
first_none : (own other : Option LimitFault) → fault_or own other ≡ None → own ≡ None
first_none (Some fault) other is = absurd cc
first_none None other is = refl

other_none : (own other : Option LimitFault) → fault_or own other ≡ None → other ≡ None
other_none (Some fault) other is = absurd cc
other_none None other is = is

-- a part without a fault is within its limits
by_weight : (before : List Part) (part : Part) (w has : Bool) → (if not w then Some (Weight (length before + 1)) else (if has then Some (Repeated (length before + 1)) else None)) ≡ None → (w ≡ true) × (has ≡ false)
by_weight before part true true is = absurd cc
by_weight before part true false is = (refl, refl)
by_weight before part false has is = absurd cc

within : (before : List Part) (part : Part) → part_fault before part ≡ None → (is_weight part.weight ≡ true) × (has_member before part.member ≡ false)
within before part is = by_weight before part (is_weight part.weight) (has_member before part.member) is

faultless : (before : List Part) (part : Part) → (is_weight part.weight ≡ true) × (has_member before part.member ≡ false) → part_fault before part ≡ None
faultless before part is = rw (is.0, is.1) refl

-- where parts behind others have no fault, each has none
each_none : (front before : List Part) (part : Part) (after : List Part) → first_fault front (before ++ part ∷ after) ≡ None → part_fault (front ++ before) part ≡ None
unfolding first_fault
each_none front [] part after none = rw (append-nil front) (first_none _ _ none)
each_none front (p ∷ before) part after none =
    subst (λ (ps : List Part). part_fault ps part ≡ None) (moved front p before) (each_none (front ++ p ∷ []) before part after (other_none _ _ none))

-- where each has none, the parts have none
all_none : (front parts : List Part) → ((before : List Part) (part : Part) (after : List Part) → parts ≡ before ++ part ∷ after → part_fault (front ++ before) part ≡ None) → first_fault front parts ≡ None
unfolding first_fault
all_none front [] each = refl
all_none front (p ∷ parts) each =
    let own : part_fault front p ≡ None = subst (λ (ps : List Part). part_fault ps p ≡ None) (append-nil front) (each [] p parts refl) in
    let rest = all_none (front ++ p ∷ []) parts (λ before part after is. subst (λ (ps : List Part). part_fault ps part ≡ None) (sym (moved front p before)) (each (p ∷ before) part after (ap (λ (ps : List Part). p ∷ ps) is))) in
    ap (λ (o : Option LimitFault). fault_or o (first_fault (front ++ p ∷ []) parts)) own ∙ rest

pub faultless_parts_are_within : FaultlessPartsAreWithin
faultless_parts_are_within parts = (
  (λ none before part after is. within before part (each_none [] before part after (subst (λ (ps : List Part). first_fault [] ps ≡ None) is none))),
  (λ each. all_none [] parts (λ before part after is. faultless before part (each before part after is))),
)
