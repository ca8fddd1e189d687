use Rattle.std.proofs.Common.{arith, ◌*◌, ◌^◌, pos, ◌≤ℤ◌}
use Rattle.std.proofs.lemmas.Int.{ints}
use Rattle.rate_indexes.proofs.FactorLemmas.{product_is, product_low, product_high}
use Rattle.curve_drawing.proofs.rates.divisor.Goals as goal
use Rattle.curve_drawing.proofs.rates.divisor.Goals.{After-from-2}

-- the factor and the part of the year are within their limits
factors : (c : After-from-2) → (pos 1 ≤ℤ c.from.result) × (c.from.result ≤ℤ pos (4 * 10 ^ 12)) × (pos 1 ≤ℤ c.from-2.result) × (c.from-2.result ≤ℤ pos (2 * 10 ^ 12))
factors c = (omega (arith, ints), omega (arith, ints), omega (arith, ints), omega (arith, ints))

pub returns-clause-low : goal.returns-clause-low
returns-clause-low c =
    let f = factors c in
    rw (product_is c.from.result c.from-2.result f.0 f.1 f.2 f.3) (product_low c.from.result c.from-2.result f.0 f.1 f.2 f.3)

pub returns-clause-high : goal.returns-clause-high
returns-clause-high c =
    let f = factors c in
    rw (product_is c.from.result c.from-2.result f.0 f.1 f.2 f.3) (product_high c.from.result c.from-2.result f.0 f.1 f.2 f.3)
