-- What an object is worth.
use Rattle.std.specs.Prelude.{Result, Ok, Err}
use Rattle.desk_terms.specs.declared.cause.Cause.{Cause}
use Rattle.desk_terms.specs.declared.value.Value.TheVariants.{Money, Curve}
use Rattle.desk_terms.specs.Reading.{Outcome}
use Rattle.pricing_session.specs.declared.answer.Worth.{Worth}
use Rattle.pricing_session.specs.declared.answer.Worth.TheVariants as worth

-- what an outcome is worth: of a curve only that it is one
abbrev pub worth_in : Outcome → Result Worth Cause
worth_in (Ok (Money amount)) = Ok (worth.Money amount)
worth_in (Ok (Curve curve)) = Ok worth.Curve
worth_in (Err cause) = Err cause
