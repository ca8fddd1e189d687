-- A count of a unit on as a value is the day that it leads to over the set of business days.
use Rattle.std.proofs.Common.{◌≡◌, zero, suc, Bool, true, false, ◌&&◌, if◌then◌else◌, refl, sym, ap, ◌∙◌, arith, ℤ, pos, negsuc, neg_ℤ, ◌+ℤ◌, ◌*ℤ◌}
use Rattle.std.specs.Int.Signed.{le_z}
use Rattle.std.specs.Ordering.{int_eq}
use Rattle.std.proofs.lemmas.Bool.Decides.{Decides-and, Decides-int_eq, not_from_Decides}
use Rattle.std.specs.Bool.{Decides}
use Rattle.jiff_core.specs.Calendar.{IsBetween}
use Rattle.day_number.specs.declared.conventions.Convention.{Convention}
use Rattle.day_number.specs.declared.tenors.Unit.{Unit as TimeUnit}
use Rattle.day_number.specs.declared.tenors.Unit.TheVariants.{Days, Weeks, Months, Years}
use Rattle.day_number.specs.Day.{IsDayNumber, date_of}
use Rattle.day_number.specs.Shift.{date_months_later, months_later}
use Rattle.day_shift.specs.Month.{IsMonthInRange}
use Rattle.day_shift.specs.Adjusted.{IsAdjusted, adjusted}
use Rattle.day_shift.specs.MonthEnd.{IsLastOpen, IsAtMonthEnd, last_open, is_from}
use Rattle.day_shift.specs.Advanced.{IsDaysOn, IsMonthsOn, IsMoved, IsAdvanced, days_on, month_day, months_on, moved, advanced, AdvancedIsTheDay}
use Rattle.day_shift.proofs.AdjustedLemmas.{adjusted_is_the_day}
use Rattle.day_shift.proofs.DaysLemmas.{days_after_are_counted}
use Rattle.day_shift.proofs.DaysBackLemmas.{days_before_are_counted}
use Rattle.day_shift.proofs.FoundLemmas.{Names, step-names}
use Rattle.day_shift.proofs.InMonthLemmas.{months_later-in_range}
use Rattle.day_shift.proofs.MonthEndLemmas.{last_open_is_greatest, month_end-decides}
use Rattle.day_shift.proofs.SearchLemmas.{le_z-decides}
use Rattle.day_shift.proofs.SetLemmas.{by_test}

pub between-decides : (low high z : ℤ) → Decides (le_z low z && le_z z high) (IsBetween low high z)
between-decides low high z = Decides-and (le_z low z) (le_z z high) (le_z-decides low z) (le_z-decides z high)

days_on-names : (business : ℤ → Bool) (day n : ℤ) → IsDayNumber day → ¬ (n ≡ pos 0) → Names (days_on business day n) (IsDaysOn business day n)
days_on-names business day (pos zero) h some x = absurd (some refl)
days_on-names business day (pos (suc n)) h some x = days_after_are_counted business (suc n) day x h (omega arith)
days_on-names business day (negsuc n) h some x = days_before_are_counted business (suc n) day x h (omega arith)

weeks-names : (business : ℤ → Bool) (convention : Convention) (day n : ℤ) → Names (moved business Weeks convention false day n) (IsMoved business Weeks convention false day n)
weeks-names business convention day n =
    let there = day +ℤ n *ℤ pos 7 in
    step-names (le_z (neg_ℤ (pos 25_202)) there && le_z there (pos 84_005)) (IsDayNumber there) there (adjusted business convention) (IsAdjusted business convention there)
    (between-decides (neg_ℤ (pos 25_202)) (pos 84_005) there) (λ range x. adjusted_is_the_day business convention there x range)

month_day-names : (business : ℤ → Bool) (convention : Convention) (kept : Bool) (Kept : Type 0) (there : ℤ) → Decides kept Kept → IsDayNumber there → Names (month_day business convention kept there) (λ x. (Kept → IsLastOpen business there x) × (¬ Kept → IsAdjusted business convention there x))
month_day-names business convention true Kept there d h x =
    let is = last_open_is_greatest business there x h in
    (λ e. (λ _. is.0 e, λ no. absurd (no (d.0 refl))), λ k. is.1 (k.0 (d.0 refl)))
month_day-names business convention false Kept there d h x =
    let is = adjusted_is_the_day business convention there x h in
    let no = not_from_Decides false d refl in
    (λ e. (λ kept. absurd (no kept), λ _. is.0 e), λ k. is.1 (k.1 no))

months_on-names : (business : ℤ → Bool) (convention : Convention) (month_end : Bool) (day n : ℤ) → IsDayNumber day → Names (months_on business convention month_end day n) (IsMonthsOn business convention month_end day n)
months_on-names business convention month_end day n h x =
    let year = (date_months_later (date_of day) n).year in
    let there = months_later day n in
    let kept = month_end && is_from day (last_open business day) in
    let Kept = (month_end ≡ true) × IsAtMonthEnd business day in
    let decides : Decides kept Kept = Decides-and month_end (is_from day (last_open business day)) (λ e. e, λ e. e) (month_end-decides business day h) in
    let is = step-names (le_z (pos 1901) year && le_z year (pos 2199)) (IsMonthInRange day n) there (month_day business convention kept)
    (λ y. (Kept → IsLastOpen business there y) × (¬ Kept → IsAdjusted business convention there y))
    (between-decides (pos 1901) (pos 2199) year)
    (λ range. month_day-names business convention kept Kept there decides (months_later-in_range day n h range)) x in
    (λ e. let k = is.0 e in (k.0, k.1.0, k.1.1), λ k. is.1 (k.0, (k.1, k.2)))

moved-names : (business : ℤ → Bool) (unit : TimeUnit) (convention : Convention) (month_end : Bool) (day n : ℤ) → IsDayNumber day → ¬ (n ≡ pos 0) → Names (moved business unit convention month_end day n) (IsMoved business unit convention month_end day n)
moved-names business Days convention month_end day n h some = days_on-names business day n h some
moved-names business Weeks convention month_end day n h some = weeks-names business convention day n
moved-names business Months convention month_end day n h some = months_on-names business convention month_end day n h
moved-names business Years convention month_end day n h some = months_on-names business convention month_end day (n *ℤ pos 12) h

pub advanced_is_the_day : AdvancedIsTheDay
unfolding advanced IsAdvanced
advanced_is_the_day business unit convention month_end day n found h =
    let decides = Decides-int_eq n (pos 0) in
    let either = λ (b : Bool). if b then adjusted business convention day else moved business unit convention month_end day n in
    by_test (int_eq n (pos 0))
    (λ holds.
    let none = decides.0 holds in
    let is = adjusted_is_the_day business convention day found h in
    (λ e. (λ _. is.0 (sym (ap either holds) ∙ e), λ some. absurd (some none)), λ k. ap either holds ∙ is.1 (k.0 none)))
    (λ fails.
    let some = not_from_Decides (int_eq n (pos 0)) decides fails in
    let is = moved-names business unit convention month_end day n h some found in
    (λ e. (λ none. absurd (some none), λ _. is.0 (sym (ap either fails) ∙ e)), λ k. ap either fails ∙ is.1 (k.1 some)))
