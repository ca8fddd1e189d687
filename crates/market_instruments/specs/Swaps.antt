-- Swaps (QuantLib's VanillaSwap).
use Rattle.std.specs.Prelude.{ℕ, ℤ, pos, unwrap_or, List, [], Option, None, Result}
use Rattle.flow_terms.specs.declared.flows.FlowTerm.{FlowTerm}
use Rattle.desk_terms.specs.declared.terms.Terms.{Terms}
use Rattle.holiday_calendars.specs.declared.calendars.Calendar.{Calendar}
use Rattle.market_tables.specs.declared.fault.MarketKind.{MarketKind}
use Rattle.market_tables.specs.declared.fault.MarketKind.TheVariants as fault
use Rattle.market_tables.specs.Fields.{field_in}
use Rattle.market_tables.specs.Given.{◌>>=◌}
use Rattle.market_tables.specs.Values.{or_fault}
use Rattle.market_fields.specs.declared.field.Field.{Field}
use Rattle.market_fields.specs.Field.{must, object_in, tenor_in, counter_in, notional_in, rate_in, sign_in}
use Rattle.market_fields.specs.Limited.{signed, opposite}
use Rattle.market_fields.specs.Earlier.{Earlier, index_terms}
use Rattle.market_instruments.specs.Schedules.{span_of, rules_of, dates_of}
use Rattle.market_instruments.specs.Appended.{lag_in, fixed_behind, float_behind}
use Rattle.market_instruments.specs.Limits.{instrument_of}

-- the fixed leg behind other flows, negative where it is paid
abbrev pub fixed_side : List (Option Field) → Calendar → ℕ → List ℤ → List FlowTerm → Result (List FlowTerm) MarketKind
fixed_side fs cal lag days flows =
    must (notional_in (field_in fs 1)) >>= (λ n. must (sign_in (field_in fs 2)) >>= (λ sign.
    must (rate_in (field_in fs 12)) >>= (λ rate. must (counter_in (field_in fs 14)) >>= (λ counter.
    fixed_behind flows cal lag (signed sign n) rate counter days))))

-- the floating leg behind other flows, negative where the fixed one is received
abbrev pub float_side : Earlier → List (Option Field) → Calendar → ℕ → List ℤ → Option ℕ → List FlowTerm → Result (List FlowTerm) MarketKind
float_side e fs cal lag days index flows =
    must (notional_in (field_in fs 1)) >>= (λ n. must (sign_in (field_in fs 2)) >>= (λ sign.
    or_fault fault.Key index >>= (λ index. rate_in (field_in fs 16) >>= (λ spread.
    must (counter_in (field_in fs 18)) >>= (λ counter. index_terms e index >>= (λ terms.
    float_behind flows cal lag (signed (opposite sign) n) (unwrap_or spread (pos 0)) counter terms days))))))

-- a swap of its fields: both schedules, the fixed leg, and then the floating leg
abbrev pub swap_of : Earlier → List (Option Field) → Result Terms MarketKind
swap_of e fs =
    span_of fs 3 >>= (λ span. object_in (field_in fs 6) >>= (λ engine. lag_in (field_in fs 7) >>= (λ lag. rules_of fs 8 >>= (λ rules.
    must (tenor_in (field_in fs 13)) >>= (λ fixed_every. object_in (field_in fs 15) >>= (λ index.
    must (tenor_in (field_in fs 17)) >>= (λ float_every.
    dates_of span rules fixed_every None None >>= (λ fixed_days. dates_of span rules float_every None None >>= (λ float_days.
    fixed_side fs span.cal lag fixed_days [] >>= (λ fixed. float_side e fs span.cal lag float_days index fixed >>= (λ flows.
    instrument_of flows index engine)))))))))))
