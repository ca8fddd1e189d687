-- What is moved for an instrument, and what is computed for names.
use Rattle.std.specs.Prelude.{◌≤◌, ◌^◌, length, ℕ, ℤ, List, ◌++◌, map, Some, Result, Ok, Err}
use Rattle.std.specs.List.{All}
use Rattle.desk_terms.specs.declared.cause.Cause.{Cause}
use Rattle.desk_terms.specs.declared.kind.Wanted.TheVariants.{Member}
use Rattle.desk_terms.specs.Reading.{Outcome, Calc}
use Rattle.desk_model.specs.Market.{Market}
use Rattle.desk_model.specs.State.{State}
use Rattle.bump_model.specs.declared.ladder.Bump.{Bump}
use Rattle.bump_model.specs.declared.ladder.Bump.TheVariants.{One, Together}
use Rattle.bump_model.specs.Quotes.{quotes_in, beneath}
use Rattle.bump_model.specs.Asking.{Asking, none, then_ask, each_asking, ladder_asking}
use Rattle.bump_model.specs.Sides.{worth}
use Rattle.market_desk.specs.declared.named.Unnamed.{Unnamed}
use Rattle.market_desk.specs.Standing.{Standing, object_named}
use Rattle.tool_risk.specs.Curves.{curves_in}
use Rattle.tool_risk.specs.Theta.{theta_asking}

-- the quotes beneath an instrument, in order of creation
abbrev pub quotes_of : Market → ℕ → List ℕ
quotes_of market o = beneath market o (quotes_in market)

-- a parallel shift of a curve: of these quotes all that lie beneath it move together
abbrev pub shift_of : Market → List ℕ → ℕ → Bump
shift_of market quotes c = Together (Some c) (beneath market c quotes)

-- WHAT IS MOVED for an instrument: each quote beneath it by itself, and then those of each curve beneath it together
abbrev pub bumps_in : Market → ℕ → List Bump
bumps_in market o = map One (quotes_of market o) ++ map (shift_of market (quotes_of market o)) (curves_in market o)

-- no more quotes are moved together than there may be objects
abbrev pub IsFew : Bump → Type 0
IsFew (One q) = Unit {0}
IsFew (Together label quotes) = length quotes ≤ 2 ^ 16

abbrev pub AreFew : List Bump → Type 0
AreFew bumps = All IsFew bumps

-- those for a theta, where the instrument is worth something
abbrev pub theta_behind : Calc → ℤ → ℕ → Result ℤ Cause → State → Asking
theta_behind calc size o (Ok base) s = theta_asking calc size o s
theta_behind calc size o (Err cause) s = none s

-- the asks for an instrument: those of its ladder, and then of its theta
unfoldable pub instrument_asking : Calc → ℤ → ℕ → State → Asking
instrument_asking calc size o s =
    then_ask (ladder_asking calc size o (bumps_in s.market o) s) (theta_behind calc size o (worth calc s.market o))

-- the asks for a name
abbrev pub asking_for : Calc → ℤ → Result ℕ Unnamed → State → Asking
asking_for calc size (Ok o) s = instrument_asking calc size o s
asking_for calc size (Err why) s = none s

abbrev pub name_asking : Calc → ℤ → List (List ℕ) → List ℕ → State → Asking
name_asking calc size names name s = asking_for calc size (object_named Member s.market names name) s

-- THE ASKS for names, in order
abbrev pub names_asking : Calc → ℤ → List (List ℕ) → List (List ℕ) → State → Asking
names_asking calc size names texts s = each_asking (name_asking calc size names) texts s

-- THE COMPUTATIONS for them
abbrev pub risk_calls : Calc → Standing → ℤ → List (List ℕ) → List (ℕ × Outcome)
risk_calls calc p size texts = (names_asking calc size p.names texts p.state).calls
