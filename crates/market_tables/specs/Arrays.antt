-- Arrays, element by element.
use Rattle.std.specs.Prelude.{List, [], ◌∷◌, Result, Ok}
use Rattle.toml.specs.Data.{Data, Items, no_items, item}
use Rattle.market_tables.specs.declared.fault.MarketKind.{MarketKind}
use Rattle.market_tables.specs.Given.{◌>>=◌}

-- what each element says, or the first fault
abbrev pub each : {X : Type 0} → (Data → Result X MarketKind) → Items → Result (List X) MarketKind
each element no_items = Ok []
each element (item d ds) = element d >>= (λ x. each element ds >>= (λ xs. Ok (x ∷ xs)))
