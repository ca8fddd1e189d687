-- Where memory has no part in an answer.
use Rattle.std.specs.Prelude.{◌≡◌, Result, Err, IfErr}
use Rattle.market_tables.specs.declared.fault.TableFault.{TableFault}
use Rattle.market_tables.specs.declared.fault.TableFault.TheVariants as fault
use Rattle.market_tables.specs.declared.fault.MarketKind.{MarketKind}

-- a fault that the definition gives is what was returned, whatever the memory
abbrev pub Refuses : {X Y : Type 0} → Result X TableFault → Result Y MarketKind → Type 0
Refuses result told = IfErr told (λ k. result ≡ Err (fault.Kind k))
