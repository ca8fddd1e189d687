-- Fields before other fields.
use Rattle.std.proofs.Common.{List, ◌++◌, Result, Ok}
use Rattle.market_tables.specs.declared.fault.MarketKind.{MarketKind}
use Rattle.market_tables.specs.Given.{◌>>=◌}

-- what comes behind these fields
abbrev pub onto : {F : Type 0} → List F → Result (List F) MarketKind → Result (List F) MarketKind
onto before told = told >>= (λ fs. Ok (before ++ fs))
