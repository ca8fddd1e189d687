use Rattle.std.proofs.Common.{◌≤ℤ◌}
use Rattle.std.specs.List.{list_all}
use Rattle.holiday_calendars.specs.Base.{is_base_day}
use Rattle.holiday_calendars.specs.Stretch.{AreHolidaysBefore}
use Rattle.holiday_calendars.proofs.joint_parts.earliest.Given as goal

abbrev pub invariant-loop-part : goal.invariant-loop-part
invariant-loop-part l = record {
  order : l.first ≤ℤ l.day;
  holidays : AreHolidaysBefore (λ x. list_all (λ part. is_base_day part x) l.parts) l.day l.first;
}
