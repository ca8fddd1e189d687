-- Bonds (QuantLib's FixedRateBond, FloatingRateBond and ZeroCouponBond).
use Rattle.std.specs.Prelude.{ℕ, ℤ, pos, int_lt, unwrap_or, if◌then◌else◌, List, [], Option, Some, None, Result, Ok, Err}
use Rattle.flow_terms.specs.declared.flows.FlowTerm.{FlowTerm}
use Rattle.desk_terms.specs.declared.terms.Terms.{Terms}
use Rattle.market_tables.specs.declared.fault.MarketKind.{MarketKind}
use Rattle.market_tables.specs.declared.fault.MarketKind.TheVariants as fault
use Rattle.market_tables.specs.Fields.{field_in}
use Rattle.market_tables.specs.Given.{◌>>=◌}
use Rattle.market_fields.specs.declared.field.Field.{Field}
use Rattle.market_fields.specs.Field.{must, object_in, day_in, tenor_in, counter_in, notional_in, rate_in}
use Rattle.market_fields.specs.Earlier.{Earlier, index_terms}
use Rattle.market_instruments.specs.Schedules.{Span, span_of, rules_of, dates_of}
use Rattle.market_instruments.specs.Appended.{lag_in, fixed_behind, float_behind, redeemed}
use Rattle.market_instruments.specs.Limits.{instrument_of}

-- the days of a bond's coupons
abbrev pub bond_dates : List (Option Field) → Span → Result (List ℤ) MarketKind
bond_dates fs span =
    must (tenor_in (field_in fs 10)) >>= (λ every. rules_of fs 11 >>= (λ rules.
    day_in (field_in fs 16) >>= (λ first. day_in (field_in fs 17) >>= (λ last. dates_of span rules every first last))))

-- coupons at a fixed rate
abbrev pub fixed_coupons : List (Option Field) → Span → ℕ → ℤ → ℤ → List FlowTerm → Result (List FlowTerm) MarketKind
fixed_coupons fs span lag n rate flows =
    bond_dates fs span >>= (λ days. must (counter_in (field_in fs 15)) >>= (λ counter.
    fixed_behind flows span.cal lag n rate counter days))

-- coupons at an index's rate and a spread
abbrev pub float_coupons : Earlier → List (Option Field) → Span → ℕ → ℤ → ℕ → List FlowTerm → Result (List FlowTerm) MarketKind
float_coupons e fs span lag n index flows =
    bond_dates fs span >>= (λ days. must (counter_in (field_in fs 15)) >>= (λ counter.
    rate_in (field_in fs 9) >>= (λ spread. index_terms e index >>= (λ terms.
    float_behind flows span.cal lag n (unwrap_or spread (pos 0)) counter terms days))))

-- without coupons the start is still before the end
abbrev pub no_coupons : Span → List FlowTerm → Result (List FlowTerm) MarketKind
no_coupons span flows = if int_lt span.start span.end then Ok flows else Err fault.Plan

abbrev pub coupons_by : Earlier → List (Option Field) → Span → ℕ → ℤ → List FlowTerm → Option ℤ → Option ℕ → Result (List FlowTerm) MarketKind
coupons_by e fs span lag n flows (Some rate) index = fixed_coupons fs span lag n rate flows
coupons_by e fs span lag n flows None (Some index) = float_coupons e fs span lag n index flows
coupons_by e fs span lag n flows None None = no_coupons span flows

-- flows with the coupons of a bond behind them, by its rate or its index
abbrev pub coupons_of : Earlier → List (Option Field) → Span → ℕ → ℤ → Option ℕ → List FlowTerm → Result (List FlowTerm) MarketKind
coupons_of e fs span lag n index flows = rate_in (field_in fs 7) >>= (λ coupon. coupons_by e fs span lag n flows coupon index)

-- a bond of its fields: its coupons, and then its redemption
abbrev pub bond_of : Earlier → List (Option Field) → Result Terms MarketKind
bond_of e fs =
    must (notional_in (field_in fs 1)) >>= (λ n. span_of fs 2 >>= (λ span.
    object_in (field_in fs 5) >>= (λ engine. lag_in (field_in fs 6) >>= (λ lag. object_in (field_in fs 8) >>= (λ index.
    coupons_of e fs span lag n index [] >>= (λ coupons. redeemed coupons span.cal lag span.end n >>= (λ flows.
    instrument_of flows index engine)))))))
