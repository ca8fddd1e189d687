-- Interest on a notional.
use Rattle.std.specs.Prelude.{ℕ, ◌*◌, ◌^◌, ℤ, ◌*ℤ◌, unsigned_abs}
use Rattle.jiff_core.specs.Calendar.{IsWithin}
use Rattle.fixed_amount.specs.Rounding.{closest}
use Rattle.flow_terms.specs.declared.limits.TheConstants.{MOST_RATE, MOST_NOTIONAL, MOST_PARTS}
use Rattle.year_parts.specs.Parts.{parts_in_year}

-- a rate, or the sum of two rates
abbrev pub IsSumOfRates : ℤ → Type 0
IsSumOfRates rate = IsWithin (2 * MOST_RATE) rate

-- the greatest product of a notional, a rate or the sum of two, and a part of the year
abbrev pub most_product : ℕ
most_product = MOST_NOTIONAL * (2 * MOST_RATE) * unsigned_abs MOST_PARTS

-- a rate of 1 for a whole year, in units of a rate and parts of a year
abbrev pub whole : ℕ
whole = 10 ^ 9 * parts_in_year

-- notional times rate times the part of the year, rounded once (QuantLib's Coupon, simple interest)
unfoldable pub interest : ℤ → ℤ → ℤ → ℤ
interest notional rate parts = closest (notional *ℤ rate *ℤ parts) whole
