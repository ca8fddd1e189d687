-- A fault stays where more would be made of a value.
use Rattle.std.proofs.Common.{refl, Result, Ok, Err}
use Rattle.market_tables.specs.declared.fault.MarketKind.{MarketKind}
use Rattle.market_tables.specs.declared.fault.TableFault.{TableFault}
use Rattle.market_tables.specs.declared.fault.TableFault.TheVariants.{Kind, NoMemory}
use Rattle.market_tables.specs.Given.{Fails, ◌>>=◌}
use Rattle.market_tables.specs.Refusals.{Refuses}

pub passed : {X Y : Type 0} (e : TableFault) (told : Result X MarketKind) (f : X → Result Y MarketKind) → Fails e told → Fails e (told >>= f)
passed NoMemory told f h = tt
passed (Kind k) told f h = rw h refl

-- a refusal whatever the memory stays where nothing that is made of the value is a fault
pub refused_on : {X Y Z : Type 0} (r : Result Z TableFault) (told : Result X MarketKind) (f : X → Y)
    → Refuses r told → Refuses r (told >>= (λ x. Ok (f x)))
refused_on r (Ok x) f h = tt
refused_on r (Err k) f h = h
