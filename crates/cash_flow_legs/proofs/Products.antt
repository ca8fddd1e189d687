-- A product of two numbers of 128 bits, as the code has it.
use Rattle.std.proofs.Common.{◌≡◌, ◌≤◌, ◌<◌, ◌+◌, ◌*◌, ◌^◌, ℕ, ℤ, pos, negsuc, ◌+ℤ◌, ◌*ℤ◌, arith, refl, to_z, of_z, FitsSigned, to_z-of_z, mul-le-mul}
use Rattle.std.specs.Int.{w128}
use Rattle.std.specs.Int.RustNames.{unsigned_abs}
use Rattle.std.proofs.lemmas.Int.{fits_signed_from_abs, unsigned_abs-mul, ints}

pub record IsProduct (a b : ℤ) (most : ℕ) : Type 0 where
  pub fits : FitsSigned w128 (to_z w128 (of_z w128 a) *ℤ to_z w128 (of_z w128 b))
  pub value : to_z w128 (of_z w128 (to_z w128 (of_z w128 a) *ℤ to_z w128 (of_z w128 b))) ≡ a *ℤ b
  pub size : unsigned_abs (a *ℤ b) ≤ most

pub product_is : (a b : ℤ) (m n : ℕ) → unsigned_abs a ≤ m → unsigned_abs b ≤ n → m < 2 ^ 127 → n < 2 ^ 127 → m * n < 2 ^ 127 → IsProduct a b (m * n)
product_is a b m n first second few_first few_second few =
    let one : FitsSigned w128 a = fits_signed_from_abs w128 a (omega (arith, first, few_first)) in
    let other : FitsSigned w128 b = fits_signed_from_abs w128 b (omega (arith, second, few_second)) in
    let size : unsigned_abs (a *ℤ b) ≤ m * n = rw (unsigned_abs-mul a b) (mul-le-mul first second) in
    let whole : FitsSigned w128 (a *ℤ b) = fits_signed_from_abs w128 (a *ℤ b) (omega (arith, size, few)) in
    record {
      fits = rw (to_z-of_z one, to_z-of_z other) whole;
      value = rw (to_z-of_z one, to_z-of_z other, to_z-of_z whole) refl;
      size = size;
    }

-- a number and a product
pub sum_fits : (n m : ℕ) (p : ℤ) → unsigned_abs p ≤ m → n + m < 2 ^ 127 → FitsSigned w128 (pos n +ℤ p)
sum_fits n m (pos a) size few = fits_signed_from_abs w128 (pos n +ℤ pos a) (omega (arith, ints, size, few))
sum_fits n m (negsuc a) size few = fits_signed_from_abs w128 (pos n +ℤ negsuc a) (omega (arith, ints, size, few))
