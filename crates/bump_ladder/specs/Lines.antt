-- What is written of a name, and what is computed for it.
use Rattle.std.specs.Prelude.{ℕ, ℤ, List, [], length, codes, Result, Ok, Err}
use Rattle.desk_terms.specs.declared.cause.Cause.{Cause}
use Rattle.desk_terms.specs.Reading.{Outcome, Calc}
use Rattle.desk_terms.specs.declared.kind.Wanted.TheVariants.{Member}
use Rattle.desk_model.specs.Market.{Market}
use Rattle.market_desk.specs.declared.named.Unnamed.{Unnamed}
use Rattle.market_desk.specs.Standing.{Standing, object_named, unnamed_line}
use Rattle.bump_model.specs.Asking.{ladder_asking}
use Rattle.bump_model.specs.declared.ladder.Bump.{Bump}
use Rattle.bump_model.specs.Quotes.{quotes_in}
use Rattle.bump_model.specs.Sides.{worth, rungs_of, each_then_all}
use Rattle.bump_ladder.specs.Report.{ladder_lines, refused_lines}
use Rattle.bump_ladder.specs.declared.TheConstants.{BUMP}

-- each quote of a market, and then all together
abbrev pub bumps_in : Market → List Bump
bumps_in market = each_then_all (quotes_in market)

-- THE COMPUTATIONS for an instrument: those of its ladder by a basis point over all quotes of the market
abbrev pub instrument_calls : Calc → Standing → ℕ → List (ℕ × Outcome)
instrument_calls calc p o = (ladder_asking calc BUMP o (bumps_in p.state.market) p.state).calls

-- the lines of an instrument by what it is worth
abbrev pub text_by : Calc → Standing → ℕ → Result ℤ Cause → List ℕ
text_by calc p o (Ok base) =
    ladder_lines p.names p.of_object o base (rungs_of calc BUMP p.state.market o base (bumps_in p.state.market))
    (length (instrument_calls calc p o))
text_by calc p o (Err cause) = refused_lines p.names p.of_object o cause (length (instrument_calls calc p o))

-- THE LINES of an instrument: of its ladder, or why it is worth nothing
abbrev pub instrument_text : Calc → Standing → ℕ → List ℕ
instrument_text calc p o = text_by calc p o (worth calc p.state.market o)

-- the same of a name that may be no instrument's
abbrev pub text_for : Calc → Standing → List ℕ → Result ℕ Unnamed → List ℕ
text_for calc p name (Ok o) = instrument_text calc p o
text_for calc p name (Err why) = unnamed_line (codes "bump") why name

abbrev pub calls_for : Calc → Standing → Result ℕ Unnamed → List (ℕ × Outcome)
calls_for calc p (Ok o) = instrument_calls calc p o
calls_for calc p (Err why) = []

-- THE LINES of a name
unfoldable pub bump_text : Calc → Standing → List ℕ → List ℕ
bump_text calc p name = text_for calc p name (object_named Member p.state.market p.names name)

-- THE COMPUTATIONS for a name
unfoldable pub bump_calls : Calc → Standing → List ℕ → List (ℕ × Outcome)
bump_calls calc p name = calls_for calc p (object_named Member p.state.market p.names name)

-- a name is an instrument's: then there is a line of how many computations were made
abbrev pub IsInstrument : Result ℕ Unnamed → Type 0
IsInstrument (Ok o) = Unit {0}
IsInstrument (Err why) = ⊥

abbrev pub IsNamed : Standing → List ℕ → Type 0
IsNamed p name = IsInstrument (object_named Member p.state.market p.names name)
