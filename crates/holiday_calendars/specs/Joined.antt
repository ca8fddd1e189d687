-- The business days of a joint calendar (QuantLib's JointCalendar).
use Rattle.std.specs.Prelude.{Bool, List, ℤ}
use Rattle.std.specs.List.{list_all, list_any}
use Rattle.holiday_calendars.specs.declared.bases.Base.{Base}
use Rattle.holiday_calendars.specs.declared.joint_parts.JointRule.{JointRule}
use Rattle.holiday_calendars.specs.declared.joint_parts.JointRule.TheVariants.{Holidays, BusinessDays}
use Rattle.holiday_calendars.specs.Base.{is_base_day}

-- a rule and the calendars that it joins
pub record Joined : Type 0 where
  pub rule : JointRule
  pub parts : List Base

-- a business day of all the parts, or of any of them
abbrev pub is_joint_day_by : JointRule → List Base → ℤ → Bool
is_joint_day_by Holidays parts day = list_all (λ part. is_base_day part day) parts
is_joint_day_by BusinessDays parts day = list_any (λ part. is_base_day part day) parts

-- a business day of a joint calendar
abbrev pub is_joint_day : Joined → ℤ → Bool
is_joint_day joined day = is_joint_day_by joined.rule joined.parts day
