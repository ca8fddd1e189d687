-- Stored rates of an index with one day more.
use Rattle.std.proofs.Common.{◌≡◌, ◌↔◌, refl, sym, ap, ◌∙◌, Bool, true, false, cond, ℤ, [], ◌∷◌, Option, Some, Contains}
use Rattle.std.specs.declared.cmp.Ordering.{Ordering}
use Rattle.std.specs.declared.cmp.Ordering.TheVariants.{Less, Equal, Greater}
use Rattle.std.specs.Ordering.{int_cmp, int_eq, is_eq, match_ordering}
use Rattle.std.specs.Map.{keys_of, lookup}
use Rattle.std.specs.BTreeMap.{insert_entry}
use Rattle.std.proofs.lemmas.Cmp.{int_eq_equiv}
use Rattle.std.proofs.lemmas.Map.Views.{Contains-from_lookup, lookup-from_Contains, tells_apart}
use Rattle.std.proofs.lemmas.Map.Lookups.{exact_signed}
use Rattle.std.proofs.lemmas.Map.Keys.{IsDistinct-from_sorted}
use Rattle.flow_terms.specs.Fixings.{Stored, AreByDay, fixing_on, with_fixing}

-- a day that is not the one at hand is looked for among the others
later_one : (at is : Bool) (x put rest new : Option ℤ) → (at ≡ true → is ≡ false) → new ≡ cond is put rest → cond at x new ≡ cond is put (cond at x rest)
later_one true is x put rest new apart found = rw (apart refl) refl
later_one false is x put rest new apart found = found

-- the rate of the day at hand is written over
this_one : (at is : Bool) (x put rest : Option ℤ) → at ≡ is → cond at put rest ≡ cond is put (cond at x rest)
this_one true true x put rest same = refl
this_one false false x put rest same = refl
this_one true false x put rest same = cc
this_one false true x put rest same = cc

-- by how the day compares with the first one
by_first : (e : ℤ × ℤ) (es : Stored) (day rate other : ℤ) (r : Ordering) → int_cmp day e.0 ≡ r
    → lookup (int_eq other) (insert_entry int_cmp es day rate) ≡ cond (int_eq day other) (Some rate) (lookup (int_eq other) es)
    → lookup (int_eq other) (match_ordering r ((day, rate) ∷ e ∷ es) ((e.0, rate) ∷ es) (e ∷ insert_entry int_cmp es day rate)) ≡ cond (int_eq day other) (Some rate) (lookup (int_eq other) (e ∷ es))
by_first e es day rate other Less is found = rw (int_eq_equiv.symm other day) refl
by_first e es day rate other Equal is found =
    let at_first : int_eq day e.0 ≡ true = ap is_eq is in
    let same : int_eq other e.0 ≡ int_eq day other = int_eq_equiv.symm other e.0 ∙ sym (int_eq_equiv.congr day e.0 other at_first) in
    this_one (int_eq other e.0) (int_eq day other) (Some e.1) (Some rate) (lookup (int_eq other) es) same
by_first e es day rate other Greater is found =
    let not_first : int_eq day e.0 ≡ false = ap is_eq is in
    let apart : int_eq other e.0 ≡ true → int_eq day other ≡ false = λ at. int_eq_equiv.symm day other ∙ int_eq_equiv.congr other e.0 day at ∙ int_eq_equiv.symm e.0 day ∙ not_first in
    later_one (int_eq other e.0) (int_eq day other) (Some e.1) (Some rate) (lookup (int_eq other) es) (lookup (int_eq other) (insert_entry int_cmp es day rate)) apart found

-- the answer on each day
pub fixing_on-with : (fixings : Stored) (day rate other : ℤ) → fixing_on (with_fixing fixings day rate) other ≡ cond (int_eq day other) (Some rate) (fixing_on fixings other)
fixing_on-with [] day rate other = rw (int_eq_equiv.symm other day) refl
fixing_on-with (e ∷ es) day rate other = by_first e es day rate other (int_cmp day e.0) refl (fixing_on-with es day rate other)

-- each is the answer on its day
pub each_answers : (fixings : Stored) (day rate : ℤ) → AreByDay fixings → (fixing_on fixings day ≡ Some rate) ↔ Contains fixings (day, rate)
each_answers fixings day rate order =
    (Contains-from_lookup (tells_apart exact_signed) day rate fixings, lookup-from_Contains int_eq_equiv day rate fixings (IsDistinct-from_sorted int_cmp (keys_of fixings) order))
