-- The definitions at known days of TARGET in 2024 and at the end of the range.
use Rattle.std.proofs.Common.{◌≡◌, Bool, true, false, not, Some, None, ℤ, pos, neg_ℤ, refl}
use Rattle.std.specs.Ordering.{int_eq}
use Rattle.jiff_core.specs.Calendar.{days_from_civil, day_count, days_of_years, days_of_months, weekday_number}
use Rattle.day_number.specs.declared.conventions.Convention.TheVariants.{Following, Preceding, ModifiedFollowing, ModifiedPreceding, HalfMonthModifiedFollowing, Nearest}
use Rattle.day_number.specs.declared.tenors.Unit.TheVariants.{Days, Months}
use Rattle.day_number.specs.Day.{civil_number, date_of, date_after, date_in_year}
use Rattle.day_number.specs.Shift.{months_later, last_of_month}
use Rattle.holiday_calendars.specs.declared.bases.Base.TheVariants.{Target}
use Rattle.holiday_calendars.specs.declared.calendars.Calendar.TheVariants.{One}
use Rattle.holiday_calendars.specs.Calendar.{is_business_day}
use Rattle.holiday_calendars.specs.Easter.{moon_days, sunday_days, early_weeks, easter_place, easter_day}
use Rattle.holiday_calendars.specs.Target.{is_target_holiday}
use Rattle.day_shift.specs.Business.{first_from, last_to, next, previous}
use Rattle.day_shift.specs.Adjusted.{adjusted}
use Rattle.holiday_calendars.specs.Counted.{business_days, business_days_from}
use Rattle.day_shift.specs.Advanced.{days_after, days_before, advanced}

abbrev target : ℤ → Bool
target = is_business_day (One Target)

-- Good Friday, 2024-03-29, by Following to 04-02, and by ModifiedFollowing and Nearest to 03-28
following : adjusted target Following (pos 19_811) ≡ Some (pos 19_815)
unfolding adjusted next previous first_from last_to last_of_month is_business_day is_target_holiday weekday_number date_of date_after date_in_year moon_days sunday_days early_weeks easter_place easter_day civil_number days_from_civil day_count days_of_years days_of_months
following = refl

modified_following : adjusted target ModifiedFollowing (pos 19_811) ≡ Some (pos 19_810)
unfolding adjusted next previous first_from last_to last_of_month is_business_day is_target_holiday weekday_number date_of date_after date_in_year moon_days sunday_days early_weeks easter_place easter_day civil_number days_from_civil day_count days_of_years days_of_months
modified_following = refl

nearest : adjusted target Nearest (pos 19_811) ≡ Some (pos 19_810)
unfolding adjusted next previous first_from last_to last_of_month is_business_day is_target_holiday weekday_number date_of date_after date_in_year moon_days sunday_days early_weeks easter_place easter_day civil_number days_from_civil day_count days_of_years days_of_months
nearest = refl

-- Saturday 2024-06-15, the middle of its month, by HalfMonthModifiedFollowing to 06-14
half_month : adjusted target HalfMonthModifiedFollowing (pos 19_889) ≡ Some (pos 19_888)
unfolding adjusted next previous first_from last_to last_of_month is_business_day is_target_holiday weekday_number date_of date_after date_in_year moon_days sunday_days early_weeks easter_place easter_day civil_number days_from_civil day_count days_of_years days_of_months
half_month = refl

-- Saturday 2024-06-01 by ModifiedPreceding to 06-03
modified_preceding : adjusted target ModifiedPreceding (pos 19_875) ≡ Some (pos 19_877)
unfolding adjusted next previous first_from last_to last_of_month is_business_day is_target_holiday weekday_number date_of date_after date_in_year moon_days sunday_days early_weeks easter_place easter_day civil_number days_from_civil day_count days_of_years days_of_months
modified_preceding = refl

-- 2024-01-31 and a month with month ends, to 02-29
month_end : advanced target Months Following true (pos 19_753) (pos 1) ≡ Some (pos 19_782)
unfolding advanced days_after days_before months_later adjusted next previous first_from last_to last_of_month is_business_day is_target_holiday weekday_number date_of date_after date_in_year moon_days sunday_days early_weeks easter_place easter_day civil_number days_from_civil day_count days_of_years days_of_months
month_end = refl

-- 2024-03-28 and a business day, and 04-02 less one, whatever the convention
day_on : advanced target Days Preceding false (pos 19_810) (pos 1) ≡ Some (pos 19_815)
unfolding advanced days_after days_before months_later adjusted next previous first_from last_to last_of_month is_business_day is_target_holiday weekday_number date_of date_after date_in_year moon_days sunday_days early_weeks easter_place easter_day civil_number days_from_civil day_count days_of_years days_of_months
day_on = refl

day_back : advanced target Days Following false (pos 19_815) (neg_ℤ (pos 1)) ≡ Some (pos 19_810)
unfolding advanced days_after days_before months_later adjusted next previous first_from last_to last_of_month is_business_day is_target_holiday weekday_number date_of date_after date_in_year moon_days sunday_days early_weeks easter_place easter_day civil_number days_from_civil day_count days_of_years days_of_months
day_back = refl

-- 2024-03-29 and 0 months, by Preceding
no_months : advanced target Months Preceding false (pos 19_811) (pos 0) ≡ Some (pos 19_810)
unfolding advanced days_after days_before months_later adjusted next previous first_from last_to last_of_month is_business_day is_target_holiday weekday_number date_of date_after date_in_year moon_days sunday_days early_weeks easter_place easter_day civil_number days_from_civil day_count days_of_years days_of_months
no_months = refl

-- from 2024-03-28 to 04-03
counted : business_days_from target (pos 19_810) (pos 19_816) ≡ 2
unfolding business_days is_business_day is_target_holiday weekday_number date_of date_after date_in_year moon_days sunday_days early_weeks easter_place easter_day civil_number days_from_civil day_count days_of_years days_of_months
counted = refl

-- 2199-12-31, where it alone is no business day
past_the_range : adjusted (λ day. not (int_eq day (pos 84_005))) Following (pos 84_005) ≡ None
unfolding adjusted next first_from
past_the_range = refl
