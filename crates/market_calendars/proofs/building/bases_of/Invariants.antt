use Rattle.std.proofs.Common.{◌≡◌, drop}
use Rattle.market_calendars.specs.Building.{bases_of}
use Rattle.market_calendars.proofs.CopyLists.{onto}
use Rattle.market_calendars.proofs.building.bases_of.Given as goal

-- the copies so far and those of the names that are left are those of all names
abbrev pub invariant-loop-name : goal.invariant-loop-name
invariant-loop-name l = onto l.bases (bases_of l.calendars (drop l.name-index l.names)) ≡ bases_of l.calendars l.names
