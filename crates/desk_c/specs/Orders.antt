-- The orders in which due watchers run, by number.
use Rattle.std.specs.Prelude.{ℕ, nat_eq, if◌then◌else◌, Option, Some, None}
use Rattle.watch_rounds.specs.declared.picker.Order.{Order}
use Rattle.watch_rounds.specs.declared.picker.Order.TheVariants.{First, Last, Seed}

-- the order that a number and a seed name
abbrev pub order_in : ℕ → ℕ → Option Order
order_in order seed =
    if nat_eq order 0 then Some First else if nat_eq order 1 then Some Last else if nat_eq order 2 then Some (Seed seed) else None
