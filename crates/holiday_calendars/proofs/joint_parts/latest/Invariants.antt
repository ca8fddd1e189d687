use Rattle.std.proofs.Common.{◌≤ℤ◌}
use Rattle.std.specs.List.{list_all}
use Rattle.holiday_calendars.specs.Base.{is_base_day}
use Rattle.holiday_calendars.specs.Stretch.{AreHolidaysAfter}
use Rattle.holiday_calendars.proofs.joint_parts.latest.Given as goal

abbrev pub invariant-loop-part : goal.invariant-loop-part
invariant-loop-part l = record {
  order : l.day ≤ℤ l.last;
  holidays : AreHolidaysAfter (λ x. list_all (λ part. is_base_day part x) l.parts) l.day l.last;
}
