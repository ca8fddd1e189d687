use Rattle.std.proofs.Common.{◌≡◌, ℤ, pos, ◌≤ℤ◌, ◌<ℤ◌, ◌-ℤ◌, true, false, slice_index_or, unsigned_abs}
use Rattle.jiff_core.specs.Calendar.{weekday_number}
use Rattle.holiday_calendars.proofs.closures.weekend_end.Given as goal

abbrev pub invariant-loop-next : goal.invariant-loop-next
invariant-loop-next l = record {
  later : l.fn.day ≤ℤ l.last;
  closed : (x : ℤ) → l.fn.day <ℤ x → x ≤ℤ l.last → slice_index_or l.weekend (weekday_number x) false ≡ true;
}

abbrev pub decreases-loop-next : goal.decreases-loop-next
decreases-loop-next l = unsigned_abs (pos 84_006 -ℤ l.last)
