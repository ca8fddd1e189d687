-- The price of a stock.
use Rattle.std.specs.Prelude.{ℕ, List, [], ◌∷◌, Err}
use Rattle.fixed_amount.specs.Rounding.{closest}
use Rattle.desk_terms.specs.declared.value.Input as input
use Rattle.desk_terms.specs.declared.cause.Cause.TheVariants.{TooLarge}
use Rattle.desk_terms.specs.Reading.{Outcome}
use Rattle.discount_engines.specs.Money.{money_of}

-- a stock is worth its quote, rounded from units of 10^-9 to units of 10^-6 (QuantLib's `Stock::performCalculations`)
abbrev pub stock_price : ℕ → List input.Input → Outcome
stock_price o (input.TheVariants.Rate rate ∷ []) = money_of o (closest rate 1000)
stock_price o inputs = Err (TooLarge o)
