-- The definitions at known days: numbers of days from Python's datetime, counts from QuantLib 1.29.
use Rattle.std.proofs.Common.{◌≡◌, refl, ◌+◌, ◌*◌, ℤ, pos, Bool}
use Rattle.year_parts.specs.declared.counters.Counter.TheVariants.{Act360, Act365, ActAct, Thirty360, ThirtyE360, Bus252}
use Rattle.jiff_core.specs.Calendar.{days_from_civil, day_count, days_of_years, days_of_months, weekday_number}
use Rattle.holiday_calendars.specs.declared.bases.Base.TheVariants.{Null, Target}
use Rattle.holiday_calendars.specs.declared.calendars.Calendar.TheVariants.{One}
use Rattle.holiday_calendars.specs.Calendar.{is_business_day}
use Rattle.holiday_calendars.specs.Counted.{business_days}
use Rattle.holiday_calendars.specs.Easter.{moon_days, sunday_days, early_weeks, easter_place, easter_day}
use Rattle.holiday_calendars.specs.Target.{is_target_holiday}
use Rattle.day_number.specs.Day.{civil_number, date_of, date_after, date_in_year}
use Rattle.day_counters.specs.Day.{act_act}
use Rattle.day_counters.specs.Counter.{frac}

-- the calendar without holidays
abbrev every_day : ℤ → Bool
every_day = is_business_day (One Null)

-- 2024-01-31 to 2024-03-31
bond_basis_31 : frac Thirty360 every_day (pos 19_753) (pos 19_813) ≡ 1_870_260
unfolding frac date_of date_after date_in_year
bond_basis_31 = refl

european_31 : frac ThirtyE360 every_day (pos 19_753) (pos 19_813) ≡ 1_870_260
unfolding frac date_of date_after date_in_year
european_31 = refl

-- 2024-01-29 to 2024-03-31: the last day's 31 stays in Bond Basis
bond_basis_29 : frac Thirty360 every_day (pos 19_751) (pos 19_813) ≡ 62 * 31_171
unfolding frac date_of date_after date_in_year
bond_basis_29 = refl

european_29 : frac ThirtyE360 every_day (pos 19_751) (pos 19_813) ≡ 61 * 31_171
unfolding frac date_of date_after date_in_year
european_29 = refl

-- 2024-01-31 to 2024-03-31 by days
act_360 : frac Act360 every_day (pos 19_753) (pos 19_813) ≡ 60 * 31_171
unfolding frac
act_360 = refl

act_365 : frac Act365 every_day (pos 19_753) (pos 19_813) ≡ 60 * 30_744
unfolding frac
act_365 = refl

-- 2023-12-30 to 2024-01-03
act_act_new_year : frac ActAct every_day (pos 19_721) (pos 19_725) ≡ 2 * 30_744 + 2 * 30_660
unfolding frac act_act date_of date_after date_in_year
act_act_new_year = refl

-- 2023-11-01 to 2024-02-15
act_act_winter : frac ActAct every_day (pos 19_662) (pos 19_768) ≡ 3_255_084
unfolding frac act_act date_of date_after date_in_year
act_act_winter = refl

-- a day to itself
act_act_none : frac ActAct every_day (pos 19_753) (pos 19_753) ≡ 0
unfolding frac act_act
act_act_none = refl

-- 2024-03-28 to 2024-04-03 on TARGET: two business days, with Good Friday, a weekend and Easter Monday between them
business_easter : frac Bus252 (is_business_day (One Target)) (pos 19_810) (pos 19_816) ≡ 89_060
unfolding frac business_days is_business_day is_target_holiday weekday_number date_of date_after date_in_year moon_days sunday_days early_weeks easter_place easter_day civil_number days_from_civil day_count days_of_years days_of_months
business_easter = refl

-- without holidays every day counts, also that of a leap year
business_every_day : frac Bus252 every_day (pos 19_781) (pos 19_784) ≡ 3 * 44_530
unfolding frac business_days is_business_day
business_every_day = refl

-- a day to itself
business_none : frac Bus252 every_day (pos 19_753) (pos 19_753) ≡ 0
unfolding frac business_days
business_none = refl
