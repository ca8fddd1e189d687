-- Whole numbers of a row.
use Rattle.std.specs.Prelude.{ℕ, ◌*◌, ◌^◌, ◌&&◌, if◌then◌else◌, List, Option, Some, None, ℤ, pos, neg_ℤ, int_le, Result, Ok, Err}
use Rattle.fixed_amount.specs.Decimal.{decimal_value}
use Rattle.fixed_amount.specs.declared.decimal.DecimalFault.{DecimalFault}

-- the number where one was read and it lies between two others
abbrev pub between : ℤ → ℤ → Result ℤ DecimalFault → Option ℤ
between least most (Ok units) = if int_le least units && int_le units most then Some units else None
between least most (Err fault) = None

-- a discount factor in units of 10^-12, from 1 to 4 times 10^12
abbrev pub factor_of : List ℕ → Option ℤ
factor_of text = between (pos 1) (pos (4 * 10 ^ 12)) (decimal_value text 0)

-- a rate in units of 10^-9, within 10 either way
abbrev pub rate_of : List ℕ → Option ℤ
rate_of text = between (neg_ℤ (pos (10 ^ 10))) (pos (10 ^ 10)) (decimal_value text 0)
