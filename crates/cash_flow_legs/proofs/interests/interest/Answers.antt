use Rattle.std.proofs.Common.{◌∙◌, ◌≤◌, arith, ap, ℤ, FitsSigned, to_z-of_z}
use Rattle.std.specs.Int.{w128}
use Rattle.std.specs.Int.RustNames.{unsigned_abs}
use Rattle.std.proofs.lemmas.Int.{ints, fits_signed_from_abs}
use Rattle.fixed_amount.specs.Rounding.{closest}
use Rattle.cash_flow_legs.specs.Interest.{whole, interest, most_product}
use Rattle.cash_flow_legs.proofs.interests.interest.Goals as goal

fits_product : (product : ℤ) → unsigned_abs product ≤ most_product → FitsSigned w128 product
fits_product product size = fits_signed_from_abs w128 product (omega (arith, size))

fits : (c : goal.After-in_units) → FitsSigned w128 c.in_units.result
fits c = omega (arith, ints, c.in_units.ensures.range)

pub in_units-requires : goal.in_units-requires
in_units-requires c = rw (to_z-of_z (fits_product c.product.result c.product.ensures.size)) c.product.ensures.size

pub returns-clause-value : goal.returns-clause-value
unfolding interest
returns-clause-value c =
    rw (to_z-of_z (fits c)) (c.in_units.ensures.value ∙ ap (λ (n : ℤ). closest n whole) (to_z-of_z (fits_product c.product.result c.product.ensures.size) ∙ c.product.ensures.value))

pub returns-clause-range : goal.returns-clause-range
returns-clause-range c = rw (to_z-of_z (fits c)) c.in_units.ensures.range
