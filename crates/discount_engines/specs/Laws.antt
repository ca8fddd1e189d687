-- What is proved of the definitions.
use Rattle.std.specs.Prelude.{◌≡◌, ℤ, List, ◌∷◌, ◌++◌, Result, Ok, Err}
use Rattle.desk_terms.specs.declared.cause.Cause.{Cause}
use Rattle.flow_terms.specs.declared.flows.FlowTerm.{FlowTerm}
use Rattle.rate_indexes.specs.Forecast.{on_value}
use Rattle.discount_engines.specs.Worth.{added, worth}

-- law: behind flows that are each worth something, a flow's cause is the answer, whatever stands behind it
abbrev pub FirstCauseDecides : Type 0
FirstCauseDecides =
    (part : FlowTerm → Result ℤ Cause) (front back : List FlowTerm) (flow : FlowTerm) (units : ℤ) (cause : Cause)
    → worth part front ≡ Ok units → part flow ≡ Err cause → worth part (front ++ flow ∷ back) ≡ Err cause

-- law: what flows and others behind them are worth is the sum of both
abbrev pub WorthIsOfBoth : Type 0
WorthIsOfBoth =
    (part : FlowTerm → Result ℤ Cause) (front back : List FlowTerm)
    → worth part (front ++ back) ≡ on_value (λ units. added units (worth part back)) (worth part front)
