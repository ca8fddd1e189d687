-- Accrued interest.
use Rattle.std.specs.Prelude.{ℤ, pos, ◌+ℤ◌, ◌-ℤ◌, ◌*ℤ◌, unsigned_abs, int_le, int_lt, ◌&&◌, if◌then◌else◌, List, [], ◌∷◌, Some, None}
use Rattle.fixed_amount.specs.Rounding.{closest}
use Rattle.flow_terms.specs.declared.flows.FlowTerm.{FlowTerm}
use Rattle.flow_terms.specs.declared.flows.FlowTerm.TheVariants.{Known, Float, Forward}

-- the share of an amount by the days of its period up to the settlement day, rounded to the nearest
abbrev pub share : ℤ → ℤ → ℤ → ℤ → ℤ
share amount start end settle = closest (amount *ℤ (settle -ℤ start)) (unsigned_abs (end -ℤ start))

-- the same, and nothing before its start and from its end on
abbrev pub accrued_over : ℤ → ℤ → ℤ → ℤ → ℤ
accrued_over amount start end settle =
    if int_le start settle && int_lt settle end then share amount start end settle else pos 0

-- what has accrued of a flow: only a coupon at a rate has a period (this project's profile; QuantLib's
-- FixedRateCoupon goes by the coupon's day counter, and behind the period counts all of the coupon until it is paid)
abbrev pub accrued_of : FlowTerm → ℤ → ℤ
accrued_of (Known paid amount None) settle = pos 0
accrued_of (Known paid amount (Some (start, end))) settle = accrued_over amount start end settle
accrued_of (Float paid notional spread parts fixing) settle = pos 0
accrued_of (Forward paid notional strike fixing) settle = pos 0

-- what has accrued of flows on a settlement day, each rounded for itself
unfoldable pub accrued : List FlowTerm → ℤ → ℤ
accrued [] settle = pos 0
accrued (flow ∷ flows) settle = accrued_of flow settle +ℤ accrued flows settle
