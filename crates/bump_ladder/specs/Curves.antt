-- The curves that objects give, each price afresh from the market alone, and the asks for them.
use Rattle.std.specs.Prelude.{ℕ, Result, Ok, Err}
use Rattle.curve_points.specs.Curve.{Curve}
use Rattle.desk_terms.specs.declared.cause.Cause.{Cause}
use Rattle.desk_terms.specs.declared.cause.Cause.TheVariants.{Unpriced}
use Rattle.desk_terms.specs.declared.value.Value.TheVariants as value
use Rattle.desk_terms.specs.Reading.{Outcome, Calc}
use Rattle.desk_model.specs.declared.entry.Entry.{Entry}
use Rattle.desk_model.specs.declared.entry.Entry.TheVariants.{Gives, Needs, Refuses}
use Rattle.desk_model.specs.Fresh.{fresh}
use Rattle.desk_model.specs.Market.{Market}
use Rattle.desk_model.specs.State.{State}
use Rattle.desk_model.specs.Uses.{input_at}
use Rattle.bump_model.specs.Asking.{Asking, none, ask_of}

-- the curve of an outcome. (An amount of money, which no curve is worth, is no curve.)
abbrev pub curve_of : ℕ → Outcome → Result Curve Cause
curve_of o (Ok (value.Curve curve)) = Ok curve
curve_of o (Ok (value.Money amount)) = Err (Unpriced o)
curve_of o (Err cause) = Err cause

-- the curve that an object is worth in a market
abbrev pub curve_at : Calc → Market → ℕ → Result Curve Cause
curve_at calc market o = curve_of o (fresh calc market o)

abbrev pub curve_in : Calc → Market → ℕ → Entry → Result Curve Cause
curve_in calc market o (Needs x) = curve_at calc market x
curve_in calc market o (Gives rate) = Err (Unpriced o)
curve_in calc market o (Refuses cause) = Err cause

-- the curve that an object gives where another names it, as an engine gives its own
abbrev pub curve_given : Calc → Market → ℕ → Result Curve Cause
curve_given calc market o = curve_in calc market o (input_at market o)

-- THE ASKS for it: for the curve that it names, or none
abbrev pub entry_asking : Calc → Entry → State → Asking
entry_asking calc (Needs x) s = ask_of calc x s
entry_asking calc (Gives rate) s = none s
entry_asking calc (Refuses cause) s = none s

abbrev pub given_asking : Calc → ℕ → State → Asking
given_asking calc o s = entry_asking calc (input_at s.market o) s
