-- Days that are listed in the order of time.
use Rattle.std.proofs.Common.{◌≡◌, ℕ, Bool, true, false, ◌||◌, slice_index_or, List, length, get_or, refl, sym, ap, ◌∙◌, arith, ℤ, Result, Ok, Err, is_ok, inl, inr}
use Rattle.std.specs.FinSet as set
use Rattle.std.specs.FinMap.{int_cmp-IsAntisymmetric}
use Rattle.std.specs.List.{list_any}
use Rattle.std.specs.List.Sorted.{IsPermutation, IsSorted, IsSearchInRange, IsBinarySearchResult}
use Rattle.std.specs.Ordering.{int_cmp, int_eq}
use Rattle.std.specs.declared.cmp.Ordering.TheVariants.{Less, Equal, Greater}
use Rattle.std.proofs.lemmas.Cmp.{int_cmp_total}
use Rattle.std.proofs.lemmas.Int.{ints}
use Rattle.std.proofs.lemmas.List.Elements.{All-from_get_or}
use Rattle.std.proofs.lemmas.Bool.{cases_order}
use Rattle.std.proofs.lemmas.List.Folds.{list_any_at, list_any_none}
use Rattle.std.proofs.lemmas.List.Sorted.{searchable_from_sorted, list_any-IsPermutation}
use Rattle.holiday_calendars.specs.Closed.{in_order, closed_on, is_closed}
use Rattle.jiff_core.specs.Calendar.{weekday_number}

-- the order of a list does not matter
pub in_order-permutation : (xs ys : List ℤ) → IsPermutation xs ys → in_order ys ≡ in_order xs
unfolding in_order
in_order-permutation xs ys h =
    ap (set.items {R = int_cmp}) (set.same_set int_cmp_total int_cmp-IsAntisymmetric (set.from_list ys) (set.from_list xs)
    (λ q. set.contains-from_list int_cmp_total ys q ∙ sym (list_any-IsPermutation (int_eq q) xs ys h) ∙ sym (set.contains-from_list int_cmp_total xs q)))

-- a test on the days in order is one on the list
pub listed-in_order : (days : List ℤ) (day : ℤ) → list_any (int_eq day) (in_order days) ≡ list_any (int_eq day) days
unfolding in_order
listed-in_order days day =
    sym (set.contains-items (set.from_list days) day) ∙ set.contains-from_list int_cmp_total days day

-- what a comparison tells the other way round
alike : (x day : ℤ) → int_cmp x day ≡ Equal → int_eq day x ≡ true
alike x day h = grind (arith, ints)

apart_less : (x day : ℤ) → int_cmp x day ≡ Less → int_eq day x ≡ false
apart_less x day h = grind (arith, ints)

apart_more : (x day : ℤ) → int_cmp x day ≡ Greater → int_eq day x ≡ false
apart_more x day h = grind (arith, ints)

-- a binary search tells whether a day is listed
pub searched_days : (xs : List ℤ) (day : ℤ) (r : Result ℕ ℕ) → IsSorted int_cmp xs → IsSearchInRange r (length xs) → IsBinarySearchResult (λ y. int_cmp y day) xs r → is_ok r ≡ list_any (int_eq day) xs
searched_days xs day (Ok i) up range found =
    sym (list_any_at (int_eq day) xs i day range (alike (get_or xs i day) day (found day)))
searched_days xs day (Err i) up range found =
    let point = found (searchable_from_sorted int_cmp_total (λ y. y) xs day up) in
    sym (list_any_none (int_eq day) xs (All-from_get_or (λ x. int_eq day x ≡ false) xs day
    (λ k lt. elim (cases_order k i) [
      | inr (inl below) ↦ apart_less (get_or xs k day) day (point.0 k day (omega arith) below)
      | inl same ↦ apart_more (get_or xs k day) day (point.1 k day (omega arith) lt)
      | inr (inr above) ↦ apart_more (get_or xs k day) day (point.1 k day (omega arith) lt)
    ])))

-- a day is closed by its weekday or by being listed
pub closed_by : (weekend : List Bool) (days : List ℤ) (place : ℕ) (day : ℤ) → place ≡ weekday_number day → (slice_index_or weekend place false || list_any (int_eq day) days) ≡ is_closed (closed_on weekend days) day
unfolding is_closed
closed_by weekend days place day h = rw (h, listed-in_order days day) refl
