-- Lemmas on coupons in the order of time.
use Rattle.std.proofs.Common.{◌≡◌, ℕ, zero, suc, ◌+◌, ◌-◌, ◌<◌, ◌≤◌, arith, refl, sym, ap, subst, Bool, ℤ, pos, ◌<ℤ◌, ◌≤ℤ◌, int_le, true, List, [], ◌∷◌, ◌++◌, length, get_or, take, Option, Some, None, Ok}
use Rattle.std.proofs.lemmas.Int.{ints, by_lt_z}
use Rattle.std.proofs.lemmas.List.Elements.{All-nil, All-cons}
use Rattle.std.specs.declared.cmp.Ordering.{Ordering}
use Rattle.std.specs.declared.cmp.Ordering.TheVariants.{Less}
use Rattle.std.specs.Cmp.{int_ranks}
use Rattle.std.specs.Ordering.{MatchOrdering}
use Rattle.std.specs.List.{slice_get, list_any, AllWithin}
use Rattle.std.specs.List.Sorted.{IsPartitionedBy, IsStrictlySortedBy}
use Rattle.std.specs.Ordering.{int_cmp, int_eq}
use Rattle.day_counters.specs.Counter.{frac}
use Rattle.day_shift.specs.Adjusted.{day_or_fault}
use Rattle.year_parts.specs.declared.counters.Counter.{Counter}
use Rattle.schedule_rules.proofs.RisingLemmas.{day_itself, or_left, or_right}
use Rattle.curve_points.proofs.PointLemmas.{le_true}
use Rattle.curve_bootstrap.specs.declared.coupons.Coupon.{Coupon}
use Rattle.curve_bootstrap.specs.Coupon.{AreOrdered, AreAfter, AreUpTo, AreParts, AreCoupons}
use Rattle.curve_bootstrap.specs.Built.{periods_from, periods, end_of, coupons_by, coupons_of}
use Rattle.curve_terms.specs.declared.terms.Helper.{Helper}
use Rattle.day_number.specs.declared.tenors.Tenor.{Tenor}
use Rattle.holiday_calendars.specs.declared.calendars.Calendar.{Calendar}

-- no coupon is before the day that they stand in order from
not_before : (from : ℤ) (cs : List Coupon) (k : ℕ) (d : Coupon) → AreOrdered from cs → k < length cs → from ≤ℤ (get_or cs k d).day
not_before from [] k d ordered h = absurd (omega arith)
not_before from (c ∷ cs) zero d ordered h = ordered.0
not_before from (c ∷ cs) (suc k) d ordered h =
    let next = not_before c.day cs k d ordered.1 (omega arith) in
    let here = ordered.0 in
    omega (arith, ints, here, next)

-- of two coupons the later is not before the other
in_order : (from : ℤ) (cs : List Coupon) (i j : ℕ) (d : Coupon) → AreOrdered from cs → i ≤ j → j < length cs → (get_or cs i d).day ≤ℤ (get_or cs j d).day
in_order from [] i j d ordered h k = absurd (omega arith)
in_order from (c ∷ cs) zero zero d ordered h k = omega (arith, ints)
in_order from (c ∷ cs) zero (suc j) d ordered h k = not_before c.day cs j d ordered.1 (omega arith)
in_order from (c ∷ cs) (suc i) zero d ordered h k = absurd (omega arith)
in_order from (c ∷ cs) (suc i) (suc j) d ordered h k = in_order c.day cs i j d ordered.1 (omega arith) (omega arith)

le_is : (a b : ℤ) → a ≤ℤ b → int_le a b ≡ true
le_is a b h = grind (arith, ints)

-- coupons in order are parted by a day
pub are_parted : (from : ℤ) (cs : List Coupon) (day : ℤ) → AreOrdered from cs → IsPartitionedBy (λ (c : Coupon). int_le c.day day) cs
are_parted from cs day ordered i j d le lt up =
    let order = in_order from cs i j d ordered le lt in
    let less = le_true (get_or cs j d).day day up in
    le_is (get_or cs i d).day day (omega (arith, ints, order, less))

-- days that rise strictly, the first after a day
abbrev pub AreRising : ℤ → List ℤ → Type 0
AreRising from [] = Unit {0}
AreRising from (day ∷ days) = (from <ℤ day) × AreRising day days

less_is : (a b : ℤ) → int_cmp a b ≡ Less → a <ℤ b
less_is a b h = subst (λ (r : Ordering). MatchOrdering r (a <ℤ b) (a ≡ b) (b <ℤ a)) h (int_ranks a b)

-- strictly sorted days rise from their first
pub from_sorted : (from : ℤ) (days : List ℤ) → IsStrictlySortedBy int_cmp (from ∷ days) → AreRising from days
unfolding IsStrictlySortedBy
from_sorted from [] sorted = tt
from_sorted from (day ∷ days) sorted = (less_is from day sorted.0.0, from_sorted day days sorted.1)

-- each of rising days is after the one before it
rising_step : (from : ℤ) (days : List ℤ) (k : ℕ) (p q : ℤ) → AreRising from days → k < length days → p ≡ get_or (from ∷ days) k p → q ≡ get_or days k q → p <ℤ q
rising_step from [] k p q rising h ip iq = absurd (omega arith)
rising_step from (day ∷ days) zero p q rising h ip iq = rw (ip, iq) rising.0
rising_step from (day ∷ days) (suc k) p q rising h ip iq = rising_step day days k p q rising.1 (omega arith) ip iq

-- of strictly sorted days the next is not before one
pub sorted_step : (days : List ℤ) (at : ℕ) (p q : ℤ) → IsStrictlySortedBy int_cmp days → 1 ≤ at → at < length days → p ≡ get_or days (at - 1) p → q ≡ get_or days at q → p ≤ℤ q
sorted_step [] at p q sorted low h ip iq = absurd (omega arith)
sorted_step (day ∷ days) zero p q sorted low h ip iq = absurd (omega arith)
sorted_step (day ∷ days) (suc k) p q sorted low h ip iq =
    let place : suc k - 1 ≡ k = omega arith in
    let less = rising_step day days k p q (from_sorted day days sorted) (omega arith) (rw place at ip) iq in
    omega (arith, ints, less)

-- one period more
periods_from_more : (counter : Counter) (business : ℤ → Bool) (from : ℤ) (days : List ℤ) (k : ℕ) (p q : ℤ) → k < length days → p ≡ get_or (from ∷ days) k p → q ≡ get_or days k q
    → periods_from counter business from (take (suc k) days) ≡ periods_from counter business from (take k days) ++ record { day = q; parts = pos (frac counter business p q) } ∷ []
periods_from_more counter business from [] k p q h ip iq = absurd (omega arith)
periods_from_more counter business from (day ∷ days) zero p q h ip iq = rw (ip, iq) refl
periods_from_more counter business from (day ∷ days) (suc k) p q h ip iq =
    ap (λ (cs : List Coupon). record { day = day; parts = pos (frac counter business from day) } ∷ cs) (periods_from_more counter business day days k p q (omega arith) ip iq)

pub periods_more : (counter : Counter) (business : ℤ → Bool) (days : List ℤ) (at : ℕ) (p q : ℤ) → 1 ≤ at → at < length days → p ≡ get_or days (at - 1) p → q ≡ get_or days at q
    → periods counter business (take (at + 1) days) ≡ periods counter business (take at days) ++ record { day = q; parts = pos (frac counter business p q) } ∷ []
periods_more counter business [] at p q low h ip iq = absurd (omega arith)
periods_more counter business (day ∷ days) zero p q low h ip iq = absurd (omega arith)
periods_more counter business (day ∷ days) (suc k) p q low h ip iq =
    let place : suc k - 1 ≡ k = omega arith in
    let next : suc k + 1 ≡ suc (suc k) = omega arith in
    rw next (periods_from_more counter business day days k p q (omega arith) (rw place at ip) iq)

-- a day that is found
pub found_day : (o : Option ℤ) (day : ℤ) → Ok day ≡ day_or_fault o → o ≡ Some day
found_day (Some d) day is = cc
found_day None day is = absurd cc

-- the last coupon's day
pub end_at : (from : ℤ) (cs : List Coupon) (k : ℕ) (d : Coupon) → length cs ≡ suc k → end_of from cs ≡ (get_or cs k d).day
end_at from [] k d size = absurd (omega arith)
end_at from (c ∷ []) zero d size = refl
end_at from (c ∷ []) (suc k) d size = absurd (omega arith)
end_at from (c ∷ e ∷ cs) zero d size = absurd (omega arith)
end_at from (c ∷ e ∷ cs) (suc k) d size = end_at c.day (e ∷ cs) k d (omega arith)

-- the coupons of a schedule's periods
period_ordered : (counter : Counter) (business : ℤ → Bool) (from : ℤ) (days : List ℤ) → AreRising from days → AreOrdered from (periods_from counter business from days)
period_ordered counter business from [] rising = tt
period_ordered counter business from (day ∷ days) rising = let here = rising.0 in (omega (arith, ints, here), period_ordered counter business day days rising.1)

period_after : (counter : Counter) (business : ℤ → Bool) (low from : ℤ) (days : List ℤ) → low ≤ℤ from → AreRising from days → AreAfter low (periods_from counter business from days)
period_after counter business low from [] le rising k d h = absurd (omega arith)
period_after counter business low from (day ∷ days) le rising zero d h = let here = rising.0 in omega (arith, ints, here)
period_after counter business low from (day ∷ days) le rising (suc k) d h = let here = rising.0 in period_after counter business low day days (omega (arith, ints, here)) rising.1 k d (omega arith)

period_not_past : (counter : Counter) (business : ℤ → Bool) (from : ℤ) (days : List ℤ) → AreRising from days → from ≤ℤ end_of from (periods_from counter business from days)
period_not_past counter business from [] rising = omega (arith, ints)
period_not_past counter business from (day ∷ days) rising = let here = rising.0 in let next = period_not_past counter business day days rising.1 in omega (arith, ints, here, next)

period_up_to : (counter : Counter) (business : ℤ → Bool) (from : ℤ) (days : List ℤ) → AreRising from days → AreUpTo (end_of from (periods_from counter business from days)) (periods_from counter business from days)
period_up_to counter business from [] rising k d h = absurd (omega arith)
period_up_to counter business from (day ∷ days) rising zero d h = period_not_past counter business day days rising.1
period_up_to counter business from (day ∷ days) rising (suc k) d h = period_up_to counter business day days rising.1 k d (omega arith)

period_parts : (counter : Counter) (business : ℤ → Bool) (from : ℤ) (days : List ℤ) → AreParts (periods_from counter business from days)
period_parts counter business from [] k d h = absurd (omega arith)
period_parts counter business from (day ∷ days) zero d h = omega (arith, ints)
period_parts counter business from (day ∷ days) (suc k) d h = period_parts counter business day days k d (omega arith)

period_count : (counter : Counter) (business : ℤ → Bool) (from : ℤ) (days : List ℤ) → length (periods_from counter business from days) ≡ length days
period_count counter business from [] = refl
period_count counter business from (day ∷ days) = ap suc (period_count counter business day days)

-- the coupons of a swap that starts on a day: its schedule's days behind the first are after that day
pub periods_are : (counter : Counter) (business : ℤ → Bool) (reference first : ℤ) (days : List ℤ) → IsStrictlySortedBy int_cmp days → slice_get days 0 ≡ Some first
    → ((x : ℤ) → list_any (int_eq x) days ≡ true → first <ℤ x → reference <ℤ x) → length days ≤ 801
    → AreCoupons reference (end_of reference (periods counter business days)) (periods counter business days)
periods_are counter business reference first [] sorted is later few = absurd cc
periods_are counter business reference first (day ∷ []) sorted is later few = record {
  few = omega arith;
  ordered = tt;
  up_to = All-nil (λ (c : Coupon). c.day ≤ℤ reference);
  after = λ _. All-nil (λ (c : Coupon). reference <ℤ c.day);
  parts = All-nil (λ (c : Coupon). pos 0 ≤ℤ c.parts);
}
periods_are counter business reference first (day ∷ next ∷ days) sorted is later few =
    let same : day ≡ first = cc in
    let rising = from_sorted day (next ∷ days) sorted in
    let step = rising.0 in
    let listed = or_right (int_eq next day) (list_any (int_eq next) (next ∷ days)) (or_left (int_eq next next) (list_any (int_eq next) days) (day_itself next)) in
    let gone = later next listed (omega (arith, ints, step, same)) in
    let one : Coupon = record { day = next; parts = pos (frac counter business day next) } in
    let rest = periods_from counter business next days in
    record {
      few = omega (arith, period_count counter business next days);
      ordered = (omega (arith, ints, gone), period_ordered counter business next days rising.1);
      up_to = All-cons (λ (c : Coupon). c.day ≤ℤ end_of next rest) one rest (period_not_past counter business next days rising.1) (period_up_to counter business next days rising.1);
      after = λ _. All-cons (λ (c : Coupon). reference <ℤ c.day) one rest gone (period_after counter business reference next days (omega (arith, ints, gone)) rising.1);
      parts = All-cons (λ (c : Coupon). pos 0 ≤ℤ c.parts) one rest (omega (arith, ints)) (period_parts counter business next days);
    }

-- one coupon of a period, paid at its end
pub only_is : (from day : ℤ) (parts : ℕ) → from ≤ℤ day → AreCoupons from day (record { day = day; parts = pos parts } ∷ [])
only_is from day parts h =
    let one : Coupon = record { day = day; parts = pos parts } in
    record {
      few = omega arith;
      ordered = (h, tt);
      up_to = All-cons (λ (c : Coupon). c.day ≤ℤ day) one [] (omega (arith, ints)) (All-nil (λ (c : Coupon). c.day ≤ℤ day));
      after = λ runs. All-cons (λ (c : Coupon). from <ℤ c.day) one [] runs (All-nil (λ (c : Coupon). from <ℤ c.day));
      parts = All-cons (λ (c : Coupon). pos 0 ≤ℤ c.parts) one [] (omega (arith, ints)) (All-nil (λ (c : Coupon). pos 0 ≤ℤ c.parts));
    }

-- the coupons of a helper of its kind
pub coupons_are : (calendar : Calendar) (reference : ℤ) (helper : Helper) (every : Option Tenor) → helper.every ≡ every → coupons_by calendar reference helper every ≡ coupons_of calendar reference helper
unfolding coupons_of
coupons_are calendar reference helper every is = ap (coupons_by calendar reference helper) (sym is)

-- where coupons in order are parted by a day
pub part_at : (cs : List Coupon) (from day : ℤ) → AreOrdered from cs
    → (n : ℕ) × (n ≤ length cs) × AllWithin (λ (c : Coupon). c.day ≤ℤ day) cs 0 n × AllWithin (λ (c : Coupon). day <ℤ c.day) cs n (length cs)
part_at [] from day ordered = (0, omega arith, (λ k d low high. absurd (omega arith)), (λ k d low high. absurd (omega arith)))
part_at (c ∷ cs) from day ordered =
    by_lt_z day c.day
    (λ less. (0, omega arith, (λ k d low high. absurd (omega arith)), all_after c cs day less ordered.1))
    (λ more. let rest = part_at cs c.day day ordered.1 in (suc rest.0, omega (arith, rest.1), first_too c cs rest.0 day more rest.2, shifted c cs rest.0 day rest.3))
  where
    all_after : (c : Coupon) (cs : List Coupon) (day : ℤ) → day <ℤ c.day → AreOrdered c.day cs → AllWithin (λ (c : Coupon). day <ℤ c.day) (c ∷ cs) 0 (length (c ∷ cs))
    all_after c cs day less ordered zero d low high = less
    all_after c cs day less ordered (suc k) d low high = let here = not_before c.day cs k d ordered (omega arith) in omega (arith, ints, here, less)

    first_too : (c : Coupon) (cs : List Coupon) (n : ℕ) (day : ℤ) → c.day ≤ℤ day → AllWithin (λ (c : Coupon). c.day ≤ℤ day) cs 0 n → AllWithin (λ (c : Coupon). c.day ≤ℤ day) (c ∷ cs) 0 (suc n)
    first_too c cs n day here rest zero d low high = here
    first_too c cs n day here rest (suc k) d low high = rest k d (omega arith) (omega arith)

    shifted : (c : Coupon) (cs : List Coupon) (n : ℕ) (day : ℤ) → AllWithin (λ (c : Coupon). day <ℤ c.day) cs n (length cs) → AllWithin (λ (c : Coupon). day <ℤ c.day) (c ∷ cs) (suc n) (length (c ∷ cs))
    shifted c cs n day rest zero d low high = absurd (omega arith)
    shifted c cs n day rest (suc k) d low high = rest k d (omega arith) (omega arith)
