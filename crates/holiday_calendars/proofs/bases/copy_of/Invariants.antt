use Rattle.std.proofs.Common.{◌≡◌, take}
use Rattle.holiday_calendars.proofs.bases.copy_of.Given as goal

abbrev pub invariant-loop-base : goal.invariant-loop-base
invariant-loop-base l = l.copies ≡ take l.base-index l.bases
