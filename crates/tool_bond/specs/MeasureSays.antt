-- What `doqs measure` says of a bond beside its accrued interest, price and yield (this project's profile).
use Rattle.std.specs.Prelude.{List, ℕ, ◌++◌, codes}
use Rattle.desk_terms.specs.Reading.{Calc}
use Rattle.tool_bond.specs.Wording.{Bond, Wording}
use Rattle.tool_bond.specs.MeasureLines.{measures_text}
use Rattle.tool_bond.specs.Spreads.{spread_text}

-- its measures and, by a way to price curves, its spread
abbrev pub bond_text : Calc → Bond → List ℕ
bond_text calc bond = measures_text bond.name bond.flows bond.settle bond.yield ++ spread_text calc bond

abbrev pub measure_says : Calc → Wording
measure_says calc = record { word = codes "measure"; more = bond_text calc }
