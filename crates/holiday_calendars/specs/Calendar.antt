-- The business days of a calendar; every other day is a holiday.
use Rattle.std.specs.Prelude.{Bool, ℤ}
use Rattle.holiday_calendars.specs.declared.calendars.Calendar.{Calendar}
use Rattle.holiday_calendars.specs.declared.calendars.Calendar.TheVariants.{One, Joint}
use Rattle.holiday_calendars.specs.Base.{is_base_day}
use Rattle.holiday_calendars.specs.Joined.{is_joint_day}

-- a business day of a calendar
unfoldable pub is_business_day : Calendar → ℤ → Bool
is_business_day (One base) day = is_base_day base day
is_business_day (Joint joined) day = is_joint_day joined day
