-- The definitions at known days: Easter Sundays from Python's dateutil, TARGET's published closing days, and joint calendars of it.
use Rattle.std.proofs.Common.{◌≡◌, true, false, [], ◌∷◌, map, pos, refl}
use Rattle.jiff_core.specs.Calendar.{days_from_civil, day_count, days_of_years, days_of_months, weekday_number}
use Rattle.day_number.specs.Day.{civil_number, date_of, date_after, date_in_year}
use Rattle.holiday_calendars.specs.declared.bases.Base.{Base}
use Rattle.holiday_calendars.specs.declared.bases.Base.TheVariants.{Target, Bespoke}
use Rattle.holiday_calendars.specs.declared.calendars.Calendar.{Calendar}
use Rattle.holiday_calendars.specs.declared.calendars.Calendar.TheVariants.{One, Joint}
use Rattle.holiday_calendars.specs.declared.joint_parts.JointRule.{JointRule}
use Rattle.holiday_calendars.specs.declared.joint_parts.JointRule.TheVariants.{Holidays, BusinessDays}
use Rattle.holiday_calendars.specs.Calendar.{is_business_day}
use Rattle.holiday_calendars.specs.Closed.{Closed, closed_on, is_closed}
use Rattle.holiday_calendars.specs.Easter.{moon_days, sunday_days, early_weeks, easter_place, easter, easter_day}
use Rattle.holiday_calendars.specs.Target.{is_target_holiday}
use Rattle.holiday_calendars.proofs.ListedLemmas.{listed-in_order}

-- the rule's h, l and m of 2024, and m of 1954, one of the few years in which it is 1
moons : map moon_days (2024 ∷ []) ≡ 4 ∷ []
unfolding moon_days
moons = refl

sundays : map sunday_days (2024 ∷ []) ≡ 5 ∷ []
unfolding moon_days sunday_days
sundays = refl

weeks : map early_weeks (2024 ∷ 1954 ∷ []) ≡ 0 ∷ 1 ∷ []
unfolding moon_days sunday_days early_weeks
weeks = refl

-- 1818 has the earliest and 2038 the latest day of Easter Sunday
easters : map easter (1818 ∷ 1901 ∷ 1954 ∷ 1981 ∷ 2008 ∷ 2024 ∷ 2038 ∷ 2199 ∷ []) ≡ record { month = 3; day = 22 } ∷ record { month = 4; day = 7 } ∷ record { month = 4; day = 18 } ∷ record { month = 4; day = 19 } ∷ record { month = 3; day = 23 } ∷ record { month = 3; day = 31 } ∷ record { month = 4; day = 25 } ∷ record { month = 4; day = 14 } ∷ []
unfolding moon_days sunday_days early_weeks easter_place
easters = refl

easter_days : map easter_day (pos 2000 ∷ pos 2024 ∷ []) ≡ pos 11_070 ∷ pos 19_813 ∷ []
unfolding moon_days sunday_days early_weeks easter_place easter_day civil_number days_from_civil day_count days_of_years days_of_months
easter_days = refl

-- 2024-03-28 to 04-02, 05-01, 12-24 to 12-27, and 2001-12-31
target_days : map (is_business_day (One Target)) (pos 19_810 ∷ pos 19_811 ∷ pos 19_812 ∷ pos 19_813 ∷ pos 19_814 ∷ pos 19_815 ∷ pos 19_844 ∷ pos 20_081 ∷ pos 20_082 ∷ pos 20_083 ∷ pos 20_084 ∷ pos 11_687 ∷ []) ≡ true ∷ false ∷ false ∷ false ∷ false ∷ true ∷ false ∷ true ∷ false ∷ false ∷ true ∷ true ∷ []
unfolding is_business_day is_target_holiday weekday_number date_of date_after date_in_year moon_days sunday_days early_weeks easter_place easter_day civil_number days_from_civil day_count days_of_years days_of_months
target_days = refl

-- closed on Tuesday 2024-04-02 alone
abbrev own : Base
own = let closed : Closed = closed_on (false ∷ false ∷ false ∷ false ∷ false ∷ false ∷ false ∷ []) (pos 19_815 ∷ []) in Bespoke closed

abbrev joined : JointRule → Calendar
joined rule = Joint (record { rule = rule; parts = Target ∷ own ∷ [] })

-- Good Friday is a business day of the second part, and 2024-04-02 of the first
all_days : map (is_business_day (joined Holidays)) (pos 19_811 ∷ pos 19_815 ∷ pos 19_816 ∷ []) ≡ false ∷ false ∷ true ∷ []
unfolding is_business_day is_closed is_target_holiday weekday_number date_of date_after date_in_year moon_days sunday_days early_weeks easter_place easter_day civil_number days_from_civil day_count days_of_years days_of_months
all_days = simp (listed-in_order) refl

any_days : map (is_business_day (joined BusinessDays)) (pos 19_811 ∷ pos 19_815 ∷ pos 19_816 ∷ []) ≡ true ∷ true ∷ true ∷ []
unfolding is_business_day is_closed is_target_holiday weekday_number date_of date_after date_in_year moon_days sunday_days early_weeks easter_place easter_day civil_number days_from_civil day_count days_of_years days_of_months
any_days = simp (listed-in_order) refl

-- the first weekday is Monday, as 2024-04-01 was
mondays : map (is_closed (closed_on (true ∷ false ∷ false ∷ false ∷ false ∷ false ∷ false ∷ []) [])) (pos 19_813 ∷ pos 19_814 ∷ pos 19_815 ∷ []) ≡ false ∷ true ∷ false ∷ []
unfolding is_closed weekday_number
mondays = simp (listed-in_order) refl
