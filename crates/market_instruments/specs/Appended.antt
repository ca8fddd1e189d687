-- Flows put behind others.
use Rattle.std.specs.Prelude.{ℕ, ℤ, unwrap_or, List, ◌++◌, Option, Result, Ok, Err}
use Rattle.std.specs.List.{All}
use Rattle.year_parts.specs.declared.counters.Counter.{Counter}
use Rattle.holiday_calendars.specs.declared.calendars.Calendar.{Calendar}
use Rattle.holiday_calendars.specs.Calendar.{is_business_day}
use Rattle.flow_terms.specs.declared.flows.FlowTerm.{FlowTerm}
use Rattle.flow_terms.specs.declared.indexes.IndexTerms.{IndexTerms}
use Rattle.flow_terms.specs.Ranges.{IsFlow, IsIndexNamed}
use Rattle.cash_flow_legs.specs.Appended.{one_flow}
use Rattle.cash_flow_legs.specs.declared.faults.LegFault.{LegFault}
use Rattle.cash_flow_legs.specs.declared.faults.LegFault.TheVariants as leg
use Rattle.cash_flow_legs.specs.Legs.{each_period, fixed_flow, float_flow}
use Rattle.cash_flow_legs.specs.Singles.{redemption_flow, settlement_flow}
use Rattle.market_tables.specs.declared.fault.MarketKind.{MarketKind}
use Rattle.market_tables.specs.declared.fault.MarketKind.TheVariants as fault
use Rattle.market_tables.specs.declared.fault.TableFault.{TableFault}
use Rattle.market_tables.specs.declared.fault.TableFault.TheVariants as table
use Rattle.market_tables.specs.Given.{◌>>=◌}
use Rattle.market_tables.specs.Values.{or_fault}
use Rattle.market_fields.specs.declared.field.Field.{Field}
use Rattle.market_fields.specs.Field.{count_in}

-- the answer of a leg as that of a market
abbrev pub ranged : Result (Unit {0}) LegFault → Result (Unit {0}) TableFault
ranged (Ok done) = Ok done
ranged (Err leg.DateRange) = Err (table.Kind fault.Range)
ranged (Err leg.NoMemory) = Err table.NoMemory

-- the payment lag of a key that may be missing: 0 where it is
abbrev pub lag_in : Option Field → Result ℕ MarketKind
lag_in field = count_in field >>= (λ lag. Ok (unwrap_or lag 0))

-- flows with more behind them, where there are days for these
abbrev pub behind : List FlowTerm → Option (List FlowTerm) → Result (List FlowTerm) MarketKind
behind flows due = or_fault fault.Range due >>= (λ more. Ok (flows ++ more))

-- fixed interest for each period of some days
abbrev pub fixed_behind : List FlowTerm → Calendar → ℕ → ℤ → ℤ → Counter → List ℤ → Result (List FlowTerm) MarketKind
fixed_behind flows cal lag notional rate counter days =
    behind flows (each_period (fixed_flow (is_business_day cal) lag notional rate counter) days)

-- interest at an index's rate and a spread for each period of some days
abbrev pub float_behind : List FlowTerm → Calendar → ℕ → ℤ → ℤ → Counter → IndexTerms → List ℤ → Result (List FlowTerm) MarketKind
float_behind flows cal lag notional spread counter index days =
    behind flows (each_period (float_flow (is_business_day cal) lag notional spread counter index) days)

-- the notional, paid a lag after the end
abbrev pub redeemed : List FlowTerm → Calendar → ℕ → ℤ → ℤ → Result (List FlowTerm) MarketKind
redeemed flows cal lag end notional = behind flows (one_flow (redemption_flow (is_business_day cal) lag end notional))

-- the settlement of a forward rate agreement
abbrev pub settled : List FlowTerm → IndexTerms → ℤ → ℤ → ℤ → Result (List FlowTerm) MarketKind
settled flows index start notional strike = behind flows (one_flow (settlement_flow index start notional strike))

-- flows within their limits, with an index where one is on an index
pub record AreWithin (index : Option ℕ) (list : List FlowTerm) : Type 0 where
  pub limits : All IsFlow list
  pub named : IsIndexNamed list index

-- flows that are within their limits with an index stay so
abbrev pub StayWithin : Option ℕ → List FlowTerm → List FlowTerm → Type 0
StayWithin index old new = AreWithin index old → AreWithin index new
