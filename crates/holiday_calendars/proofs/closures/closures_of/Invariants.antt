use Rattle.std.proofs.Common.{ℤ, ◌≤ℤ◌, ◌≡◌, true}
use Rattle.std.specs.Prelude.{All}
use Rattle.holiday_calendars.specs.Closed.{closed_on, is_closed}
use Rattle.holiday_calendars.specs.Stretch.{IsClosure}
use Rattle.holiday_calendars.proofs.closures.closures_of.Given as goal

abbrev pub invariant-loop-day : goal.invariant-loop-day
invariant-loop-day l = record {
  kept : All (IsClosure (closed_on l.weekend l.days)) l.closures.items;
  current : (x : ℤ) → l.first ≤ℤ x → x ≤ℤ l.last → is_closed (closed_on l.weekend l.days) x ≡ true;
}
