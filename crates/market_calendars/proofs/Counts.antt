-- The number of an array's elements.
use Rattle.std.proofs.Common.{◌≡◌, List, [], ◌∷◌, length, suc, refl, ap}
use Rattle.toml.specs.View.{items_view}
use Rattle.toml.specs.declared.value.Value.{Value}
use Rattle.market_calendars.specs.Places.{item_count}

pub counted : (xs : List Value) → item_count (items_view xs) ≡ length xs
counted [] = refl
counted (x ∷ xs) = ap suc (counted xs)
