-- Stretches of closed days.
use Rattle.std.proofs.Common.{◌≡◌, ℕ, ◌<◌, Bool, true, false, ◌||◌, slice_index_or, List, length, get_or, refl, sym, ap, ◌∙◌, arith, ℤ, pos, ◌+ℤ◌, ◌≤ℤ◌, ◌<ℤ◌}
use Rattle.std.specs.List.{list_any}
use Rattle.std.specs.Ordering.{int_eq}
use Rattle.std.proofs.lemmas.Int.{ints, by_lt_z}
use Rattle.std.proofs.lemmas.List.Folds.{list_any_at}
use Rattle.jiff_core.specs.Calendar.{weekday_number}
use Rattle.holiday_calendars.specs.Closed.{closed_on, is_closed}
use Rattle.holiday_calendars.proofs.ListedLemmas.{closed_by}

-- the days from a first one to a last one are closed
abbrev pub IsStretch : List Bool → List ℤ → ℤ → ℤ → Type 0
IsStretch weekend days first last = (x : ℤ) → first ≤ℤ x → x ≤ℤ last → is_closed (closed_on weekend days) x ≡ true

-- the weekdays of the days after a day, up to another, are holidays
abbrev pub IsWeekendAfter : List Bool → ℤ → ℤ → Type 0
IsWeekendAfter weekend day end = (x : ℤ) → day <ℤ x → x ≤ℤ end → slice_index_or weekend (weekday_number x) false ≡ true

or_true : (b : Bool) → (b || true) ≡ true
or_true true = refl
or_true false = refl

by_weekday : (weekend : List Bool) (days : List ℤ) (x : ℤ) → slice_index_or weekend (weekday_number x) false ≡ true → is_closed (closed_on weekend days) x ≡ true
by_weekday weekend days x e =
    sym (closed_by weekend days (weekday_number x) x refl) ∙ ap (λ b. b || list_any (int_eq x) days) e

by_list : (weekend : List Bool) (days : List ℤ) (x : ℤ) → list_any (int_eq x) days ≡ true → is_closed (closed_on weekend days) x ≡ true
by_list weekend days x e =
    sym (closed_by weekend days (weekday_number x) x refl) ∙ ap (λ b. slice_index_or weekend (weekday_number x) false || b) e
    ∙ or_true (slice_index_or weekend (weekday_number x) false)

same_day : (day x : ℤ) → x ≡ day → int_eq day x ≡ true
same_day day x e = grind (arith, ints)

-- a day of the list, and the days of the weekend behind it
pub stretch-begun : (weekend : List Bool) (days : List ℤ) (i : ℕ) (day end : ℤ) → i < length days → day ≡ get_or days i day → IsWeekendAfter weekend day end → IsStretch weekend days day end
stretch-begun weekend days i day end low is after x from to =
    by_lt_z day x
    (λ later. by_weekday weekend days x (after x later to))
    (λ le. let here : day ≡ x = omega (arith, ints) in
    ap (λ z. is_closed (closed_on weekend days) z) (sym here)
    ∙ by_list weekend days day (list_any_at (int_eq day) days i day low (same_day day (get_or days i day) (sym is))))

-- a stretch that such a day follows
pub stretch-longer : (weekend : List Bool) (days : List ℤ) (i : ℕ) (first last day end : ℤ) → i < length days → day ≡ get_or days i day → IsStretch weekend days first last → day ≤ℤ (last +ℤ pos 1) → IsWeekendAfter weekend day end → IsStretch weekend days first end
stretch-longer weekend days i first last day end low is stretch joined after x from to =
    by_lt_z last x
    (λ later. stretch-begun weekend days i day end low is after x (omega (arith, ints)) to)
    (λ le. stretch x from le)

-- one day
pub stretch-one : (weekend : List Bool) (days : List ℤ) (i : ℕ) (day : ℤ) → i < length days → day ≡ get_or days i day → IsStretch weekend days day day
stretch-one weekend days i day low is =
    stretch-begun weekend days i day day low is (λ x later to. absurd (omega (arith, ints)))
