-- When a key must stand in its table.
use Rattle.std.specs.Prelude.{Bool, true, false}
use Rattle.market_tables.specs.declared.presence.Presence.{Presence}
use Rattle.market_tables.specs.declared.presence.Presence.TheVariants.{Always, Optional}

-- whether a key of this presence must stand in its table
abbrev pub must_stand : Presence → Bool
must_stand Always = true
must_stand Optional = false
