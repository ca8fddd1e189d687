-- Flows that stand alone.
use Rattle.std.specs.Prelude.{ℕ, ℤ, Bool, Option, Some, None}
use Rattle.day_shift.specs.Adjusted.{adjusted}
use Rattle.holiday_calendars.specs.Calendar.{is_business_day}
use Rattle.flow_terms.specs.declared.indexes.IndexTerms.{IndexTerms}
use Rattle.flow_terms.specs.declared.flows.FlowTerm.{FlowTerm}
use Rattle.flow_terms.specs.declared.flows.FlowTerm.TheVariants.{Forward}
use Rattle.cash_flow_legs.specs.Days.{payment_day, fixing_day}
use Rattle.cash_flow_legs.specs.Legs.{known_on}

-- the notional, paid a lag after the end, for no period (QuantLib's Redemption)
abbrev pub redemption_flow : (ℤ → Bool) → ℕ → ℤ → ℤ → Option FlowTerm
redemption_flow business lag end notional = known_on (payment_day business lag end) notional None

-- a settlement on a day, where its rate is fixed on a day
abbrev pub settled_on : ℤ → Option ℤ → ℤ → ℤ → Option FlowTerm
settled_on paid None notional strike = None
settled_on paid (Some fixing) notional strike = Some (Forward paid notional strike fixing)

-- a settlement on a day, where there is one, fixed before it
abbrev pub settled_from : IndexTerms → Option ℤ → ℤ → ℤ → Option FlowTerm
settled_from index None notional strike = None
settled_from index (Some paid) notional strike = settled_on paid (fixing_day index paid) notional strike

-- the settlement of a forward rate agreement, paid on its start as its index adjusts it
-- (QuantLib's ForwardRateAgreement)
abbrev pub settlement_flow : IndexTerms → ℤ → ℤ → ℤ → Option FlowTerm
settlement_flow index start notional strike =
    settled_from index (adjusted (is_business_day index.cal) index.conv start) notional strike
