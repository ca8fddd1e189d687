-- Adjusted and advanced days are business days, and business days stay.
use Rattle.std.proofs.Common.{◌≡◌, ℕ, zero, suc, ◌&&◌, nat_le, nat_lt, not, Bool, true, false, if◌then◌else◌, Option, Some, None, refl, sym, ap, ◌∙◌, arith, ℤ, pos, negsuc, ◌+ℤ◌, ◌-ℤ◌, ◌*ℤ◌}
use Rattle.std.proofs.lemmas.Int.{ints}
use Rattle.std.proofs.lemmas.Option.{none-some, same_Some}
use Rattle.std.proofs.lemmas.Bool.Decides.{Decides-int_eq, not_from_Decides}
use Rattle.std.specs.Int.Signed.{le_z}
use Rattle.std.specs.Ordering.{int_eq}
use Rattle.day_number.specs.declared.conventions.Convention.{Convention}
use Rattle.day_number.specs.declared.conventions.Convention.TheVariants.{Unadjusted, Following, Preceding, ModifiedFollowing, ModifiedPreceding, HalfMonthModifiedFollowing, Nearest}
use Rattle.day_number.specs.declared.tenors.Unit.{Unit as TimeUnit}
use Rattle.day_number.specs.declared.tenors.Unit.TheVariants.{Days, Weeks, Months, Years}
use Rattle.day_number.specs.Day.{IsDayNumber, date_of}
use Rattle.day_number.specs.Shift.{date_months_later, last_of_month, months_later}
use Rattle.day_shift.specs.Business.{IsBusinessDay, day_at, next, previous}
use Rattle.day_shift.specs.Month.{IsMonthInRange, is_same_month, is_across_middle, month_at}
use Rattle.day_shift.specs.MonthEnd.{last_open, is_from}
use Rattle.day_shift.specs.Adjusted.{kept_or, nearer, adjusted, BusinessDaysStay, AdjustedIsOpen}
use Rattle.day_shift.specs.Advanced.{and_then, days_on, month_day, months_on, moved, advanced, AdvancedIsOpen}
use Rattle.day_shift.proofs.AdvancedLemmas.{between-decides}
use Rattle.day_shift.proofs.DaysLemmas.{after-open}
use Rattle.day_shift.proofs.DaysBackLemmas.{before-open}
use Rattle.day_shift.proofs.InMonthLemmas.{months_later-in_range}
use Rattle.day_shift.proofs.MonthEndLemmas.{last_open_is_greatest}
use Rattle.day_shift.proofs.NearestLemmas.{nearest_is_nearest}
use Rattle.day_shift.proofs.SearchLemmas.{next-here, previous-here, le_z-true, day_at-found}
use Rattle.day_shift.proofs.SetLemmas.{by_test, by_option, next-is, previous-is}

-- a day lies in its own month, and in its own half of it
day_itself : (day : ℤ) → int_eq day day ≡ true
day_itself day = grind (arith, ints)

no_middle : (place : ℕ) → (nat_le place 15 && nat_lt 15 place) ≡ false
no_middle place = grind arith

-- the day of one kind, which passes
kept_here : (passes : ℤ → Bool) (day : ℤ) (value other : Option ℤ) → value ≡ Some day → passes day ≡ true → kept_or passes value other ≡ Some day
kept_here passes day value other is holds =
    ap (λ o. kept_or passes o other) is ∙ ap (λ b. if b then Some day else other) holds

pub business_days_stay : BusinessDaysStay
unfolding adjusted
business_days_stay business Unadjusted day is = refl
business_days_stay business Following day is = next-here business day is.0 is.1
business_days_stay business Preceding day is = previous-here business day is.0 is.1
business_days_stay business ModifiedFollowing day is =
    kept_here (is_same_month day) day (next business day) (previous business day) (next-here business day is.0 is.1) (day_itself (last_of_month day))
business_days_stay business ModifiedPreceding day is =
    kept_here (is_same_month day) day (previous business day) (next business day) (previous-here business day is.0 is.1) (day_itself (last_of_month day))
business_days_stay business HalfMonthModifiedFollowing day is =
    kept_here (λ later. is_same_month day later && not (is_across_middle day later)) day (next business day) (previous business day) (next-here business day is.0 is.1)
    (ap (λ b. b && not (is_across_middle day day)) (day_itself (last_of_month day)) ∙ ap not (no_middle (date_of day).day))
business_days_stay business Nearest day is =
    ap (λ o. nearer day o (previous business day)) (next-here business day is.0 is.1)
    ∙ ap (λ o. nearer day (Some day) o) (previous-here business day is.0 is.1)
    ∙ ap (λ b. if b then Some day else Some day) (le_z-true (day -ℤ day) (day -ℤ day) (omega (arith, ints)))

-- both kinds are business days
kept-open : (business passes : ℤ → Bool) (one other : Option ℤ) (found : ℤ) → ((x : ℤ) → one ≡ Some x → IsBusinessDay business x) → ((x : ℤ) → other ≡ Some x → IsBusinessDay business x) → kept_or passes one other ≡ Some found → IsBusinessDay business found
kept-open business passes None other found a b e = absurd (none-some found e)
kept-open business passes (Some x) other found a b e =
    by_test (passes x)
    (λ holds. a found (sym (ap (λ v. if v then Some x else other) holds) ∙ e))
    (λ fails. b found (sym (ap (λ v. if v then Some x else other) fails) ∙ e))

pub adjusted_is_open : AdjustedIsOpen
unfolding adjusted
adjusted_is_open business Unadjusted day found h moves e = absurd (moves refl)
adjusted_is_open business Following day found h moves e = (next-is business day found h e).0
adjusted_is_open business Preceding day found h moves e = (previous-is business day found h e).0
adjusted_is_open business ModifiedFollowing day found h moves e =
    kept-open business (is_same_month day) (next business day) (previous business day) found
    (λ x is. (next-is business day x h is).0) (λ x is. (previous-is business day x h is).0) e
adjusted_is_open business ModifiedPreceding day found h moves e =
    kept-open business (is_same_month day) (previous business day) (next business day) found
    (λ x is. (previous-is business day x h is).0) (λ x is. (next-is business day x h is).0) e
adjusted_is_open business HalfMonthModifiedFollowing day found h moves e =
    kept-open business (λ later. is_same_month day later && not (is_across_middle day later)) (next business day) (previous business day) found
    (λ x is. (next-is business day x h is).0) (λ x is. (previous-is business day x h is).0) e
adjusted_is_open business Nearest day found h moves e =
    ((nearest_is_nearest business day found h).0 e).0

-- what is behind a day that a step leads to
pub record Behind (o : Option ℤ) (step : ℤ → Option ℤ) (found : ℤ) : Type 0 where
  pub there : ℤ
  pub is : o ≡ Some there
  pub then_is : step there ≡ Some found

pub behind : (o : Option ℤ) (step : ℤ → Option ℤ) (found : ℤ) → and_then o step ≡ Some found → Behind o step found
behind None step found e = absurd (none-some found e)
behind (Some day) step found e = record { there = day; is = refl; then_is = e }

-- the month some months later, where there is one
pub month_at-is : (day n there : ℤ) → month_at day n ≡ Some there → IsMonthInRange day n × (there ≡ months_later day n)
month_at-is day n there e =
    let year = (date_months_later (date_of day) n).year in
    by_test (le_z (pos 1901) year && le_z year (pos 2199))
    (λ holds. ((between-decides (pos 1901) (pos 2199) year).0 holds, same_Some there (months_later day n) (sym e ∙ ap (λ b. if b then Some (months_later day n) else None) holds)))
    (λ fails. absurd (none-some there (sym (ap (λ b. if b then Some (months_later day n) else None) fails) ∙ e)))

month_day-open : (business : ℤ → Bool) (convention : Convention) (kept : Bool) (there found : ℤ) → IsDayNumber there → ¬ (convention ≡ Unadjusted) → month_day business convention kept there ≡ Some found → IsBusinessDay business found
month_day-open business convention true there found h moves e = ((last_open_is_greatest business there found h).0 e).0
month_day-open business convention false there found h moves e = adjusted_is_open business convention there found h moves e

months_on-open : (business : ℤ → Bool) (convention : Convention) (month_end : Bool) (day n found : ℤ) → IsDayNumber day → ¬ (convention ≡ Unadjusted) → months_on business convention month_end day n ≡ Some found → IsBusinessDay business found
months_on-open business convention month_end day n found h moves e =
    let kept = month_end && is_from day (last_open business day) in
    let step = behind (month_at day n) (month_day business convention kept) found e in
    let at = month_at-is day n step.there step.is in
    month_day-open business convention kept step.there found (rw at.1 (months_later-in_range day n h at.0)) moves step.then_is

moved-open : (business : ℤ → Bool) (unit : TimeUnit) (convention : Convention) (month_end : Bool) (day n found : ℤ) → IsDayNumber day → ¬ (n ≡ pos 0) → ¬ (convention ≡ Unadjusted) → moved business unit convention month_end day n ≡ Some found → IsBusinessDay business found
moved-open business Days convention month_end day (pos zero) found h some moves e = absurd (some refl)
moved-open business Days convention month_end day (pos (suc n)) found h some moves e = (after-open business n day found h e).0
moved-open business Days convention month_end day (negsuc n) found h some moves e = (before-open business n day found h e).0
moved-open business Weeks convention month_end day n found h some moves e =
    let step = behind (day_at (day +ℤ n *ℤ pos 7)) (adjusted business convention) found e in
    let at = day_at-found (day +ℤ n *ℤ pos 7) step.there step.is in
    adjusted_is_open business convention step.there found (rw at.1 at.0) moves step.then_is
moved-open business Months convention month_end day n found h some moves e =
    months_on-open business convention month_end day n found h moves e
moved-open business Years convention month_end day n found h some moves e =
    months_on-open business convention month_end day (n *ℤ pos 12) found h moves e

pub advanced_is_open : AdvancedIsOpen
unfolding advanced
advanced_is_open business unit convention month_end day n found h moves e =
    let decides = Decides-int_eq n (pos 0) in
    let either = λ (b : Bool). if b then adjusted business convention day else moved business unit convention month_end day n in
    by_test (int_eq n (pos 0))
    (λ holds. adjusted_is_open business convention day found h moves (sym (ap either holds) ∙ e))
    (λ fails. moved-open business unit convention month_end day n found h (not_from_Decides (int_eq n (pos 0)) decides fails) moves (sym (ap either fails) ∙ e))
