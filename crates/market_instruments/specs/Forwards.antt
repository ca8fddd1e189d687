-- Forward rate agreements (QuantLib's ForwardRateAgreement).
use Rattle.std.specs.Prelude.{ℕ, List, [], Option, Some, Result}
use Rattle.flow_terms.specs.declared.flows.FlowTerm.{FlowTerm}
use Rattle.desk_terms.specs.declared.terms.Terms.{Terms}
use Rattle.market_tables.specs.declared.fault.MarketKind.{MarketKind}
use Rattle.market_tables.specs.Fields.{field_in}
use Rattle.market_tables.specs.Given.{◌>>=◌}
use Rattle.market_fields.specs.declared.field.Field.{Field}
use Rattle.market_fields.specs.Field.{must, object_in, day_in, notional_in, rate_in, sign_in}
use Rattle.market_fields.specs.Limited.{signed}
use Rattle.market_fields.specs.Earlier.{Earlier, index_terms}
use Rattle.market_instruments.specs.Appended.{settled}
use Rattle.market_instruments.specs.Limits.{instrument_of}

-- the settlement on an index behind other flows, negative where the agreement is short
abbrev pub settlement_of : Earlier → List (Option Field) → ℕ → List FlowTerm → Result (List FlowTerm) MarketKind
settlement_of e fs index flows =
    must (notional_in (field_in fs 1)) >>= (λ n. must (sign_in (field_in fs 2)) >>= (λ sign.
    must (day_in (field_in fs 4)) >>= (λ start. must (rate_in (field_in fs 5)) >>= (λ strike.
    index_terms e index >>= (λ terms. settled flows terms start (signed sign n) strike)))))

-- a forward rate agreement of its fields
abbrev pub forward_of : Earlier → List (Option Field) → Result Terms MarketKind
forward_of e fs =
    must (object_in (field_in fs 3)) >>= (λ index. object_in (field_in fs 6) >>= (λ engine.
    settlement_of e fs index [] >>= (λ flows. instrument_of flows (Some index) engine)))
