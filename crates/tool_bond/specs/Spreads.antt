-- The line of a bond's spread over the curve of its engine (this project's profile).
use Rattle.std.specs.Prelude.{ℕ, ℤ, List, ◌++◌, codes, Option, None, Some, Result, Ok, Err}
use Rattle.curve_points.specs.Curve.{Curve}
use Rattle.desk_terms.specs.declared.cause.Cause.{Cause}
use Rattle.desk_terms.specs.declared.cause.Cause.TheVariants as cause
use Rattle.desk_terms.specs.Reading.{Calc}
use Rattle.price_report.specs.Line.{cause_text}
use Rattle.bump_ladder.specs.Curves.{curve_given}
use Rattle.market_desk.specs.Making.{desk_with, names_with}
use Rattle.bond_spread.specs.declared.spreads.SpreadFault.{SpreadFault}
use Rattle.bond_spread.specs.declared.spreads.SpreadFault.TheVariants.{Before, Past, TooLarge, Above, Below}
use Rattle.bond_spread.specs.Spread.{spread_of}
use Rattle.tool_bond.specs.Lines.{value_line, refused_line}
use Rattle.tool_bond.specs.Wording.{Bond}

-- `NAME refused spread CAUSE`, the cause as a transcript has it
abbrev pub cause_line : List (List ℕ) → List ℕ → List ℕ → Cause → List ℕ
cause_line names of_object name why = refused_line name (codes "spread " ++ cause_text names of_object why)

-- why there is none over the curve of an object
abbrev pub fault_text : List (List ℕ) → List ℕ → List ℕ → ℕ → SpreadFault → List ℕ
fault_text names of_object name owner (Before day) = cause_line names of_object name (cause.Before owner day)
fault_text names of_object name owner (Past day) = cause_line names of_object name (cause.Past owner day)
fault_text names of_object name owner TooLarge = refused_line name (codes "spread toolarge")
fault_text names of_object name owner (Above price) = value_line name (codes "refused spread above") price 6
fault_text names of_object name owner (Below price) = value_line name (codes "refused spread below") price 6

-- `NAME spread S`, or why there is none
abbrev pub found_text : List (List ℕ) → List ℕ → List ℕ → ℕ → Result ℤ SpreadFault → List ℕ
found_text names of_object name owner (Ok spread) = value_line name (codes "spread") spread 9
found_text names of_object name owner (Err fault) = fault_text names of_object name owner fault

-- the same by a curve, or why there is none of it
abbrev pub curve_text : List (List ℕ) → List ℕ → Bond → Result Curve Cause → List ℕ
curve_text names of_object bond (Ok curve) =
    found_text names of_object bond.name curve.owner (spread_of curve bond.flows bond.settle bond.full)
curve_text names of_object bond (Err why) = cause_line names of_object bond.name why

-- by the curve of an engine of the market
abbrev pub engine_text : Calc → Bond → ℕ → List ℕ
engine_text calc bond engine =
    curve_text bond.market.names (names_with bond.market.made) bond
    (curve_given calc (desk_with bond.market.today bond.market.made).market engine)

abbrev pub engine_or_none : Calc → Bond → Option ℕ → List ℕ
engine_or_none calc bond (Some engine) = engine_text calc bond engine
engine_or_none calc bond None = refused_line bond.name (codes "spread noengine")

-- THE LINE of the spread of a bond
abbrev pub spread_text : Calc → Bond → List ℕ
spread_text calc bond = engine_or_none calc bond bond.engine
