-- Copies before other copies.
use Rattle.std.proofs.Common.{List, ◌++◌, Result, Ok}
use Rattle.market_tables.specs.declared.fault.MarketKind.{MarketKind}
use Rattle.market_tables.specs.Given.{◌>>=◌}

-- what comes behind these
abbrev pub onto : {X : Type 0} → List X → Result (List X) MarketKind → Result (List X) MarketKind
onto before told = told >>= (λ xs. Ok (before ++ xs))
