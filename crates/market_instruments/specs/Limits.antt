-- Terms within their limits.
use Rattle.std.specs.Prelude.{ℕ, List, Option, Result, Ok, Err}
use Rattle.flow_terms.specs.declared.flows.FlowTerm.{FlowTerm}
use Rattle.desk_terms.specs.declared.terms.Terms.{Terms}
use Rattle.instrument_terms.specs.declared.faults.LimitFault.{LimitFault}
use Rattle.instrument_terms.specs.declared.faults.LimitFault.TheVariants.{Weight, Repeated, NoFlow, TooManyFlows}
use Rattle.instrument_terms.specs.Flows.{flows_or_fault}
use Rattle.market_tables.specs.declared.fault.MarketKind.{MarketKind}
use Rattle.market_tables.specs.declared.fault.MarketKind.TheVariants as fault

-- a fault of terms as the fault of a market
abbrev pub limit_kind : LimitFault → MarketKind
limit_kind (Weight n) = fault.Number
limit_kind (Repeated n) = fault.Parts
limit_kind NoFlow = fault.Flows
limit_kind TooManyFlows = fault.Flows

abbrev pub limited : Result Terms LimitFault → Result Terms MarketKind
limited (Ok t) = Ok t
limited (Err e) = Err (limit_kind e)

-- an instrument of flows, with its index and its engine
abbrev pub instrument_of : List FlowTerm → Option ℕ → Option ℕ → Result Terms MarketKind
instrument_of flows index engine = limited (flows_or_fault flows index engine)
