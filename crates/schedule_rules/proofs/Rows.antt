-- The definition at known plans: days from Python's datetime by hand, and TARGET's in 2024.
use Rattle.std.proofs.Common.{◌≡◌, Bool, true, false, [], ◌∷◌, Option, Some, None, Ok, Err, ℤ, pos, neg_ℤ, Bor, refl}
use Rattle.jiff_core.specs.Calendar.{days_from_civil, day_count, days_of_years, days_of_months, weekday_number}
use Rattle.day_number.specs.declared.conventions.Convention.{Convention}
use Rattle.day_number.specs.declared.conventions.Convention.TheVariants.{Unadjusted, Following, Preceding}
use Rattle.day_number.specs.declared.tenors.Unit.{Unit as TimeUnit}
use Rattle.day_number.specs.declared.tenors.Unit.TheVariants.{Days, Months}
use Rattle.day_number.specs.Day.{civil_number, date_of, date_after, date_in_year}
use Rattle.day_number.specs.Shift.{months_later, last_of_month}
use Rattle.holiday_calendars.specs.declared.bases.Base.TheVariants.{Null, Target}
use Rattle.holiday_calendars.specs.declared.calendars.Calendar.{Calendar}
use Rattle.holiday_calendars.specs.declared.calendars.Calendar.TheVariants.{One}
use Rattle.holiday_calendars.specs.Calendar.{is_business_day}
use Rattle.holiday_calendars.specs.Easter.{moon_days, sunday_days, early_weeks, easter_place, easter_day}
use Rattle.holiday_calendars.specs.Target.{is_target_holiday}
use Rattle.day_shift.specs.Business.{first_from, last_to, next, previous}
use Rattle.day_shift.specs.Adjusted.{adjusted}
use Rattle.schedule_rules.specs.declared.plans.Rule.{Rule}
use Rattle.schedule_rules.specs.declared.plans.Rule.TheVariants.{Backward, Forward, Zero}
use Rattle.schedule_rules.specs.declared.plans.Plan.{Plan}
use Rattle.schedule_rules.specs.declared.faults.PlanFault.TheVariants.{Order, Tenor, Stub, TooMany, Collapsed}
use Rattle.schedule_rules.specs.declared.schedules.TheConstants.{MOST_DAYS}
use Rattle.schedule_rules.specs.Step.{step, steps_from}
use Rattle.schedule_rules.specs.Raw.{put_into, raw_days}
use Rattle.schedule_rules.specs.Schedule.{each_of, schedule}

-- a plan by its own terms, over any calendar that is referred to
abbrev plan : Bor Calendar → ℤ → ℤ → TimeUnit → ℤ → Rule → Bool → Option ℤ → Option ℤ → Convention → Convention → Plan
plan cal start end unit count rule eom first last conv end_conv =
    record { start = start; end = end; tenor = record { count = count; unit = unit }; cal = cal; conv = conv; end_conv = end_conv; rule = rule; eom = eom; first = first; last = last }

abbrev every : ℤ → Bool
every = is_business_day (One Null)

abbrev target : ℤ → Bool
target = is_business_day (One Target)

-- 2024-01-15 to 2025-03-15 every 6 months back from the end
half_years : (cal : Bor Calendar) → schedule every (plan cal (pos 19_737) (pos 20_162) Months (pos 6) Backward false None None Unadjusted Unadjusted) ≡ Ok (pos 19_737 ∷ pos 19_797 ∷ pos 19_981 ∷ pos 20_162 ∷ [])
unfolding schedule each_of adjusted raw_days put_into step steps_from months_later last_of_month date_of date_after date_in_year civil_number days_from_civil day_count days_of_years days_of_months
half_years cal = refl

-- 2024-01-31 to 2024-05-31 every month back from the end: each step starts at the end
clipped_months : (cal : Bor Calendar) → schedule every (plan cal (pos 19_753) (pos 19_874) Months (pos 1) Backward false None None Unadjusted Unadjusted) ≡ Ok (pos 19_753 ∷ pos 19_782 ∷ pos 19_813 ∷ pos 19_843 ∷ pos 19_874 ∷ [])
unfolding schedule each_of adjusted raw_days put_into step steps_from months_later last_of_month date_of date_after date_in_year civil_number days_from_civil day_count days_of_years days_of_months
clipped_months cal = refl

-- 2024-01-31 to 2024-04-30 every month from the start, at the ends of months
month_ends : (cal : Bor Calendar) → schedule every (plan cal (pos 19_753) (pos 19_843) Months (pos 1) Forward true None None Unadjusted Unadjusted) ≡ Ok (pos 19_753 ∷ pos 19_782 ∷ pos 19_813 ∷ pos 19_843 ∷ [])
unfolding schedule each_of adjusted raw_days put_into step steps_from months_later last_of_month date_of date_after date_in_year civil_number days_from_civil day_count days_of_years days_of_months
month_ends cal = refl

-- a start that is the end, a stub without steps, and 1901-01-01 to 1904-01-01 day by day
no_days : (cal : Bor Calendar) → schedule every (plan cal (pos 19_737) (pos 19_737) Months (pos 6) Backward false None None Unadjusted Unadjusted) ≡ Err Order
unfolding schedule
no_days cal = refl

stub_alone : (cal : Bor Calendar) → schedule every (plan cal (pos 19_737) (pos 20_162) Months (pos 6) Zero false (Some (pos 19_800)) None Unadjusted Unadjusted) ≡ Err Stub
unfolding schedule
stub_alone cal = refl

no_tenor : (cal : Bor Calendar) → schedule every (plan cal (pos 19_737) (pos 20_162) Months (pos 721) Forward false (Some (pos 19_737)) None Unadjusted Unadjusted) ≡ Err Tenor
unfolding schedule
no_tenor cal = refl

-- 2024-03-28 to 2024-04-04 day by day on TARGET, where Easter has four days: 03-28, 04-02, 04-03, 04-04
easter_days : (cal : Bor Calendar) → schedule target (plan cal (pos 19_810) (pos 19_817) Days (pos 1) Backward false None None Following Following) ≡ Ok (pos 19_810 ∷ pos 19_815 ∷ pos 19_816 ∷ pos 19_817 ∷ [])
unfolding schedule each_of adjusted next previous first_from last_to raw_days put_into step steps_from months_later last_of_month is_business_day is_target_holiday weekday_number date_of date_after date_in_year moon_days sunday_days early_weeks easter_place easter_day civil_number days_from_civil day_count days_of_years days_of_months
easter_days cal = refl

-- 2024-03-29 to 2024-03-31 there: one business day
collapsed : (cal : Bor Calendar) → schedule target (plan cal (pos 19_811) (pos 19_813) Days (pos 1) Forward false None None Following Following) ≡ Err Collapsed
unfolding schedule each_of adjusted next previous first_from last_to raw_days put_into step steps_from months_later last_of_month is_business_day is_target_holiday weekday_number date_of date_after date_in_year moon_days sunday_days early_weeks easter_place easter_day civil_number days_from_civil day_count days_of_years days_of_months
collapsed cal = refl

-- the end by its own convention: 2024-01-30 to 2024-03-30 every month, Following with 04-02, and Preceding with 03-28
end_following : (cal : Bor Calendar) → schedule target (plan cal (pos 19_752) (pos 19_812) Months (pos 1) Forward false None None Preceding Following) ≡ Ok (pos 19_752 ∷ pos 19_782 ∷ pos 19_815 ∷ [])
unfolding schedule each_of adjusted next previous first_from last_to raw_days put_into step steps_from months_later last_of_month is_business_day is_target_holiday weekday_number date_of date_after date_in_year moon_days sunday_days early_weeks easter_place easter_day civil_number days_from_civil day_count days_of_years days_of_months
end_following cal = refl

-- this project's limit
most_days : MOST_DAYS ≡ 801
most_days = refl

-- 1901-01-01 to 1904-01-01 day by day
too_many : (cal : Bor Calendar) → schedule every (plan cal (neg_ℤ (pos 25_202)) (neg_ℤ (pos 24_107)) Days (pos 1) Backward false None None Unadjusted Unadjusted) ≡ Err TooMany
unfolding schedule raw_days put_into step steps_from
too_many cal = refl
