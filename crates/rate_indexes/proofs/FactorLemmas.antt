-- Products of factors and of parts of a year through the casts of signed arithmetic.
use Rattle.std.proofs.Common.{◌≡◌, ◌≤◌, ◌*◌, ◌^◌, arith, refl, ℤ, pos, ◌*ℤ◌, ◌≤ℤ◌, to_z, of_z, FitsSigned, unsigned_abs}
use mir.Syntax.{w128}
use Rattle.std.proofs.lemmas.Int.{ints, to_z-of_z, fits_signed_mul}
use Rattle.std.proofs.Math.Nat.{one-le-mul}
use Rattle.jiff_core.proofs.SignedLemmas.{unsigned_abs-product}
use Rattle.curve_points.proofs.SegmentLemmas.{product_within}

-- a product through the casts
pub product_is : (a b : ℤ) → pos 1 ≤ℤ a → a ≤ℤ pos (4 * 10 ^ 12) → pos 1 ≤ℤ b → b ≤ℤ pos (2 * 10 ^ 12) → to_z w128 (of_z w128 (to_z w128 (of_z w128 a) *ℤ to_z w128 (of_z w128 b))) ≡ a *ℤ b
product_is a b al ah bl bh =
    let fa : FitsSigned w128 a = omega (arith, ints) in
    let fb : FitsSigned w128 b = omega (arith, ints) in
    let fits = fits_signed_mul w128 a b 4000000000000 2000000000000 (omega (arith, ints)) (omega (arith, ints)) (omega arith) in
    rw (to_z-of_z w128 a fa, to_z-of_z w128 b fb, to_z-of_z w128 (a *ℤ b) fits) refl

-- it is at least 1, and at most the product of the limits
pub product_low : (a b : ℤ) → pos 1 ≤ℤ a → a ≤ℤ pos (4 * 10 ^ 12) → pos 1 ≤ℤ b → b ≤ℤ pos (2 * 10 ^ 12) → pos 1 ≤ℤ (a *ℤ b)
product_low a b al ah bl bh =
    let within = product_within a b 4000000000000 2000000000000 (omega (arith, ints)) ah (omega (arith, ints)) bh in
    let size : 1 ≤ unsigned_abs a * unsigned_abs b = one-le-mul (omega (arith, ints)) (omega (arith, ints)) in
    omega (arith, ints, within.0, size, unsigned_abs-product a b)

pub product_high : (a b : ℤ) → pos 1 ≤ℤ a → a ≤ℤ pos (4 * 10 ^ 12) → pos 1 ≤ℤ b → b ≤ℤ pos (2 * 10 ^ 12) → (a *ℤ b) ≤ℤ pos (8 * 10 ^ 24)
product_high a b al ah bl bh = (product_within a b 4000000000000 2000000000000 (omega (arith, ints)) ah (omega (arith, ints)) bh).1
