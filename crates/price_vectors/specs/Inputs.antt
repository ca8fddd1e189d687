-- The inputs of a price of flows.
use Rattle.std.specs.Prelude.{Bool, true, false}
use Rattle.desk_terms.specs.declared.value.Input as input

abbrev pub is_curve : input.Input → Bool
is_curve (input.TheVariants.Rate rate) = false
is_curve (input.TheVariants.Money amount) = false
is_curve (input.TheVariants.Curve curve) = true
