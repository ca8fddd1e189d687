-- The lines of a bond's measures, byte by byte (this project's profile).
use Rattle.std.specs.Prelude.{ℕ, ℤ, List, ◌++◌, codes, Result, Ok, Err}
use Rattle.flow_terms.specs.declared.flows.FlowTerm.{FlowTerm}
use Rattle.bond_measure.specs.declared.measures.MeasureFault.{MeasureFault}
use Rattle.bond_measure.specs.declared.measures.MeasureFault.TheVariants.{Low, High, Worthless}
use Rattle.bond_measure.specs.Measures.{bpv, duration, convexity}
use Rattle.tool_bond.specs.Lines.{value_line, refused_line}

-- why there is no measure, in words
abbrev pub fault_word : MeasureFault → List ℕ
fault_word Low = codes "low"
fault_word High = codes "high"
fault_word Worthless = codes "worthless"

-- `NAME MEASURE VALUE`, or `NAME refused MEASURE WORD`
abbrev pub measure_line : List ℕ → List ℕ → Result ℤ MeasureFault → ℕ → List ℕ
measure_line name word (Ok value) places = value_line name word value places
measure_line name word (Err fault) places = refused_line name (word ++ codes " " ++ fault_word fault)

-- `NAME bpv V`, `NAME duration D` and `NAME convexity C`: money, years, and whole years squared
unfoldable pub measures_text : List ℕ → List FlowTerm → ℤ → ℕ → List ℕ
measures_text name flows settle yield =
    measure_line name (codes "bpv") (bpv flows settle yield) 6
    ++ measure_line name (codes "duration") (duration flows settle yield) 9
    ++ measure_line name (codes "convexity") (convexity flows settle yield) 0
