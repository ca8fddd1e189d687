-- The limits of an instrument's flows.
use Rattle.std.specs.Prelude.{ℕ, ◌==◌, nat_lt, if◌then◌else◌, List, length, Option, Result, Ok, Err}
use Rattle.flow_terms.specs.declared.flows.FlowTerm.{FlowTerm}
use Rattle.desk_terms.specs.declared.terms.Terms.{Terms}
use Rattle.desk_terms.specs.declared.terms.Terms.TheVariants.{Flows}
use Rattle.flow_terms.specs.declared.limits.TheConstants.{MOST_FLOWS}
use Rattle.instrument_terms.specs.declared.faults.LimitFault.{LimitFault}
use Rattle.instrument_terms.specs.declared.faults.LimitFault.TheVariants.{NoFlow, TooManyFlows}

-- an instrument by its flows, of which it has at least one and not too many (this project's limit)
abbrev pub flows_or_fault : List FlowTerm → Option ℕ → Option ℕ → Result Terms LimitFault
flows_or_fault flows index engine =
    if length flows == 0 then Err NoFlow
    else (if nat_lt MOST_FLOWS (length flows) then Err TooManyFlows
    else Ok (Flows (record { flows = flows; index = index }) engine))
