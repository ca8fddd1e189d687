-- Lemmas on the first fault of parts, and on the marks of their members.
use Rattle.std.proofs.Common.{◌≡◌, ◌≢◌, ℕ, suc, ◌+◌, ◌<◌, ◌≤◌, arith, refl, sym, ap, subst, ◌∙◌, ◌⊎◌, inl, inr, if◌then◌else◌, Bool, true, false, ◌||◌, ◌==◌, nat_lt, List, [], ◌∷◌, ◌++◌, length, get_or, set, drop, replicate, drop_of_length-le, Option, Some, None}
use Rattle.std.proofs.Math.Seq.{drop-cons}
use Rattle.std.specs.List.{slice_get}
use Rattle.std.specs.Option.{is_some}
use Rattle.std.proofs.lemmas.Bool.{ltb-true, ltb-false}
use Rattle.std.proofs.lemmas.Bool.Decides.{eqb_tells}
use Rattle.std.proofs.Math.Bool.{or-true, or-false}
use Rattle.std.proofs.lemmas.List.{get_or-replicate, get_or-set_same, get_or-set_other, length-set, length-replicate}
use Rattle.std.proofs.lemmas.List.Folds.{list_any-append}
use Rattle.std.proofs.lemmas.Option.{slice_get-get_or, get_or_from_slice_get}
use Rattle.desk_terms.specs.declared.terms.Part.{Part}
use Rattle.instrument_terms.specs.declared.faults.LimitFault.{LimitFault}
use Rattle.instrument_terms.specs.declared.marks.TheConstants.{MARKS}
use Rattle.instrument_terms.specs.Parts.{has_member, part_fault, fault_or, first_fault}
use Rattle.instrument_terms.specs.Marks.{AreMarks, marked}

-- the first fault from a part on, by its own fault
pub first_fault_step : (before parts : List Part) (at : ℕ) (part : Part) → at < length parts → part ≡ get_or parts at part
    → first_fault before (drop at parts) ≡ fault_or (part_fault before part) (first_fault (before ++ part ∷ []) (drop (at + 1) parts))
unfolding first_fault
first_fault_step before parts at part h is =
    let here : drop at parts ≡ part ∷ drop (suc at) parts = drop-cons parts at part h ∙ ap (λ (p : Part). p ∷ drop (suc at) parts) (sym is) in
    let next : suc at ≡ at + 1 = omega arith in
    rw (← next, here) refl

-- behind the last part there is no fault
pub first_fault_done : (before parts : List Part) (at : ℕ) → length parts ≤ at → first_fault before (drop at parts) ≡ None
unfolding first_fault
first_fault_done before parts at h = rw (drop_of_length-le parts h) refl

-- a fault that is there is the first
pub found_first : (found other : Option LimitFault) → is_some found ≡ true → fault_or found other ≡ found
found_first (Some fault) other is = refl
found_first None other is = absurd cc

-- a fault that is not there is not the first
pub none_first : (found other : Option LimitFault) → is_some found ≡ false → fault_or found other ≡ other
none_first (Some fault) other is = absurd cc
none_first None other is = refl

-- no marks for no parts
pub no_marks : AreMarks [] (replicate 65_536 false)
no_marks = record {
  count = length-replicate 65_536 false;
  exact = λ number h. slice_get-get_or (replicate 65_536 false) number false (rw (length-replicate 65_536 false) h) ∙ ap (λ (b : Bool). Some b) (get_or-replicate 65_536 number false false h);
}

-- a member stands in parts with one part more where it stood before, or is that part's
has_more : (before : List Part) (part : Part) (number : ℕ) (same : Bool) → (part.member == number) ≡ same → has_member (before ++ part ∷ []) number ≡ (has_member before number || same)
has_more before part number same is = list_any-append (λ (p : Part). p.member == number) before (part ∷ []) ∙ ap (λ (b : Bool). has_member before number || b) (rw is (or-false same))

-- a mark more, read at a number
read_more : (before : List Part) (marks : List Bool) (part : Part) (number : ℕ) → AreMarks before marks → part.member < length marks → number < MARKS
    → ((part.member == number) ≡ true) × (part.member ≡ number) ⊎ ((part.member == number) ≡ false) × (part.member ≢ number)
    → get_or (set marks part.member true) number false ≡ has_member (before ++ part ∷ []) number
read_more before marks part number are h n (inl (same, is)) =
    subst (λ (k : ℕ). get_or (set marks part.member true) k false ≡ has_member (before ++ part ∷ []) number) is
    (get_or-set_same marks part.member true false h ∙ sym (has_more before part number true same ∙ or-true (has_member before number)))
read_more before marks part number are h n (inr (other, is)) =
    get_or-set_other marks part.member number true false (λ e. is (sym e))
    ∙ (get_or_from_slice_get marks number (has_member before number) false (are.exact number n) ∙ sym (has_more before part number false other ∙ or-false (has_member before number)))

-- with a member that has no mark the marks stay
read_same : (before : List Part) (marks : List Bool) (part : Part) (number : ℕ) → AreMarks before marks → length marks ≤ part.member → number < MARKS
    → ((part.member == number) ≡ true) × (part.member ≡ number) ⊎ ((part.member == number) ≡ false) × (part.member ≢ number)
    → slice_get marks number ≡ Some (has_member (before ++ part ∷ []) number)
read_same before marks part number are h n (inl (same, is)) = let count = are.count in absurd (omega (arith, count, is))
read_same before marks part number are h n (inr (other, is)) =
    are.exact number n ∙ ap (λ (b : Bool). Some b) (sym (has_more before part number false other ∙ or-false (has_member before number)))

-- the marks with that of a member
marks_by : (before : List Part) (marks : List Bool) (part : Part) (has : Bool) → nat_lt part.member (length marks) ≡ has → AreMarks before marks
    → AreMarks (before ++ part ∷ []) (if has then set marks part.member true else marks)
marks_by before marks part true has are = record {
  count = length-set marks part.member true ∙ are.count;
  exact = λ number h. let count = are.count in
      slice_get-get_or (set marks part.member true) number false (rw (length-set marks part.member true) (omega (arith, count, h)))
      ∙ ap (λ (b : Bool). Some b) (read_more before marks part number are (ltb-true _ _ has) h (eqb_tells part.member number));
}
marks_by before marks part false has are = record {
  count = are.count;
  exact = λ number h. read_same before marks part number are (ltb-false _ _ has) h (eqb_tells part.member number);
}

pub marks_more : (before : List Part) (marks : List Bool) (part : Part) → AreMarks before marks → AreMarks (before ++ part ∷ []) (marked marks part.member)
marks_more before marks part are = marks_by before marks part (nat_lt part.member (length marks)) refl are
