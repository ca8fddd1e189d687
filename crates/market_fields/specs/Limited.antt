-- Notionals and rates within the limits of terms (this project's limits).
use Rattle.std.specs.Prelude.{ℕ, ℤ, pos, neg_ℤ, int_le, if◌then◌else◌, List, Result, Ok, Err}
use Rattle.market_tables.specs.declared.fault.MarketKind.{MarketKind}
use Rattle.market_tables.specs.declared.fault.MarketKind.TheVariants as fault
use Rattle.market_tables.specs.Given.{◌>>=◌}
use Rattle.market_tables.specs.Values.{decimal_of}
use Rattle.market_fields.specs.declared.limited.Sign.{Sign}
use Rattle.market_fields.specs.declared.limited.Sign.TheVariants.{Plus, Minus}

abbrev pub opposite : Sign → Sign
opposite Plus = Minus
opposite Minus = Plus

-- an amount with a sign
abbrev pub signed : Sign → ℤ → ℤ
signed Plus n = n
signed Minus n = neg_ℤ n

-- a decimal of at most 6 places above 0, up to 10^18 units
abbrev pub notional_of : List ℕ → Result ℤ MarketKind
notional_of text =
    decimal_of 6 1_000_000_000_000_000_000 text >>= (λ units. if int_le (pos 1) units then Ok units else Err fault.Number)

-- a decimal of at most 9 places within 10 either way
abbrev pub rate_of : List ℕ → Result ℤ MarketKind
rate_of text = decimal_of 9 10_000_000_000 text
