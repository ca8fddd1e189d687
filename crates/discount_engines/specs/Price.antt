-- The price of an instrument.
use Rattle.std.specs.Prelude.{Result, Ok, Err}
use Rattle.desk_terms.specs.declared.terms.Terms.{Terms}
use Rattle.desk_terms.specs.declared.terms.Terms.TheVariants.{Quote, Derived, Handle, Curve, Implied, Index, Engine, Stock, Composite, Flows}
use Rattle.desk_terms.specs.declared.value.Value.{Value}
use Rattle.desk_terms.specs.declared.cause.Cause.TheVariants.{TooLarge}
use Rattle.desk_terms.specs.Reading.{Reading, Outcome, Calc}
use Rattle.discount_engines.specs.Stock.{stock_price}
use Rattle.discount_engines.specs.Composite.{composite_price}
use Rattle.discount_engines.specs.Flows.{flows_price}
use Rattle.discount_engines.specs.declared.faults.PriceFault.{PriceFault}
use Rattle.discount_engines.specs.declared.faults.PriceFault.TheVariants.{Refused}

-- the price by kind; what is no instrument has none here
abbrev pub price_of : Terms → Reading → Outcome
price_of (Stock quote) reading = stock_price reading.object reading.inputs
price_of (Composite parts) reading = composite_price reading.object parts reading.inputs
price_of (Flows flows engine) reading = flows_price reading.object flows reading.today reading.index reading.inputs
price_of (Quote value) reading = Err (TooLarge reading.object)
price_of (Derived minus first second) reading = Err (TooLarge reading.object)
price_of (Handle kind target) reading = Err (TooLarge reading.object)
price_of (Curve terms) reading = Err (TooLarge reading.object)
price_of (Implied curve reference) reading = Err (TooLarge reading.object)
price_of (Index terms fixings) reading = Err (TooLarge reading.object)
price_of (Engine curve) reading = Err (TooLarge reading.object)

-- the price of an instrument by its reading
abbrev pub instrument_price : Calc
instrument_price reading = price_of reading.terms reading

-- the same as the answer of a call
abbrev pub answer_of : Outcome → Result Value PriceFault
answer_of (Ok value) = Ok value
answer_of (Err cause) = Err (Refused cause)
