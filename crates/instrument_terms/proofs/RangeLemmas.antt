-- Parts within the limits of a composite are each in range.
use Rattle.std.proofs.Common.{◌≡◌, ◌↔◌, inl, inr, ℕ, Bool, true, false, not, List, [], ◌∷◌, ◌++◌, ℤ, Option, Some, None, refl, sym, ap, subst, ◌∙◌, arith}
use Rattle.std.specs.Prelude.{◌==◌, pos, nat_le, unsigned_abs}
use Rattle.std.specs.Option.{is_some}
use Rattle.std.specs.Ordering.{int_eq}
use Rattle.std.proofs.lemmas.Bool.{false≢true, eqb-false, or_from, or_parts, and_from, and_parts}
use Rattle.std.proofs.lemmas.Bool.Decides.{eqb_tells, nat_tests, Decides-int_eq}
use Rattle.std.proofs.lemmas.List.{append_assoc}
use Rattle.std.proofs.lemmas.List.Folds.{list_any-append}
use Rattle.desk_terms.specs.declared.terms.Part.{Part}
use Rattle.desk_terms.specs.Parts.{IsWeight, AreEachInRange}
use Rattle.instrument_terms.specs.declared.faults.LimitFault.{LimitFault}
use Rattle.instrument_terms.specs.Parts.{is_weight, has_member, first_fault}
use Rattle.instrument_terms.specs.Laws.{AreWithin, PartsWithinAreInRange}
use Rattle.instrument_terms.proofs.LawLemmas.{faultless_parts_are_within}

swapped : (a b : ℕ) → (a == b) ≡ false → (b == a) ≡ false
swapped a b other = elim (eqb_tells b a) [
  | inl same ↦ absurd (eqb-false a b other (sym same.1))
  | inr differs ↦ differs.0
]

weight_then : (weight : ℤ) → is_weight weight ≡ true → IsWeight weight
weight_then weight is =
    let both = and_parts (not (int_eq weight (pos 0))) (nat_le (unsigned_abs weight) 1_000_000) is in
    let some = both.0 in
    let low = both.1 in (
      (λ e. false≢true (sym (ap (λ (w : ℤ). not (int_eq w (pos 0))) e) ∙ some)),
      grind (arith, nat_tests),
    )

weight_from : (weight : ℤ) → IsWeight weight → is_weight weight ≡ true
weight_from weight is = and_from (not (int_eq weight (pos 0))) (nat_le (unsigned_abs weight) 1_000_000) (by_zero (int_eq weight (pos 0)) refl) (let low = is.1 in grind (arith, nat_tests))
  where
    by_zero : (b : Bool) → int_eq weight (pos 0) ≡ b → not b ≡ true
    by_zero true zero_ = absurd (is.0 ((Decides-int_eq weight (pos 0)).0 zero_))
    by_zero false some = refl

-- no part behind a part has its member
none_later : (part : Part) (between parts : List Part) → AreWithin (part ∷ (between ++ parts)) → has_member parts part.member ≡ false
none_later part between [] within = refl
none_later part between (p ∷ parts) within =
    or_from _ _ (swapped part.member p.member (or_parts _ _ (within (part ∷ between) p parts refl).1).0)
    (none_later part (between ++ p ∷ []) parts
    (subst (λ (ps : List Part). AreWithin (part ∷ ps)) (sym (append_assoc between (p ∷ []) parts)) within))

pub each_in_range : (parts : List Part) → AreWithin parts → AreEachInRange parts
each_in_range [] within = tt
each_in_range (part ∷ parts) within = (
  weight_then part.weight (within [] part parts refl).0,
  (
    none_later part [] parts within,
    each_in_range parts (λ before p after is.
        let own = within (part ∷ before) p after (ap (λ (ps : List Part). part ∷ ps) is) in (own.0, (or_parts _ _ own.1).1)),
  ),
)

-- nor has one before it
none_before : (before : List Part) (part : Part) (after : List Part) → AreEachInRange (before ++ part ∷ after)
    → (is_weight part.weight ≡ true) × (has_member before part.member ≡ false)
none_before [] part after each = (weight_from part.weight each.0, refl)
none_before (p ∷ before) part after each =
    let rest = none_before before part after each.1.1 in
    let later = or_parts (has_member before p.member) _ (sym (list_any-append (λ (q : Part). q.member == p.member) before (part ∷ after)) ∙ each.1.0) in
    (rest.0, or_from _ _ (swapped part.member p.member (or_parts _ _ later.1).0) rest.1)

pub parts_within_are_in_range : PartsWithinAreInRange
parts_within_are_in_range parts = (
  (λ within. each_in_range parts within),
  (λ each before part after is. none_before before part after (subst AreEachInRange is each)),
)

-- parts are each in range exactly where they have no fault
pub faultless_in_range : (parts : List Part) (found : Option LimitFault) (none : Bool) → found ≡ first_fault [] parts
    → is_some found ≡ not none → (none ≡ true) ↔ AreEachInRange parts
faultless_in_range parts None true is by = ((λ none. each_in_range parts ((faultless_parts_are_within parts).0 (sym is))), (λ each. refl))
faultless_in_range parts None false is by = absurd cc
faultless_in_range parts (Some fault) true is by = absurd cc
faultless_in_range parts (Some fault) false is by = (
  (λ none. absurd (false≢true none)),
  (λ each. ap is_some (sym ((faultless_parts_are_within parts).1 ((parts_within_are_in_range parts).1 each)) ∙ sym is)),
)
