-- A weight times an amount, and a sum of such products.
use Rattle.std.proofs.Common.{◌≡◌, ◌≤◌, ◌+◌, ◌*◌, ◌^◌, ℤ, pos, negsuc, neg_ℤ, ◌≤ℤ◌, ◌+ℤ◌, ◌*ℤ◌, arith, refl, to_z, of_z, w64, FitsSigned, to_z-of_z, mul-le-mul}
use Rattle.std.specs.Int.{w128}
use Rattle.std.specs.Int.RustNames.{unsigned_abs}
use Rattle.std.proofs.lemmas.Int.{fits_signed_from_abs, unsigned_abs-mul, ints}

pub amount_bound : (a : ℤ) → neg_ℤ (pos (10 ^ 26)) ≤ℤ a → a ≤ℤ pos (10 ^ 26) → unsigned_abs a ≤ 10 ^ 26
amount_bound (pos n) low high = omega (arith, ints)
amount_bound (negsuc n) low high = omega (arith, ints)

-- the product as the code has it
pub record IsProduct (w a result : ℤ) : Type 0 where
  pub fits : FitsSigned w128 (to_z w128 (of_z w128 (to_z w64 (of_z w64 w))) *ℤ to_z w128 (of_z w128 a))
  pub value : result ≡ to_z w128 (of_z w128 (to_z w128 (of_z w128 (to_z w64 (of_z w64 w))) *ℤ to_z w128 (of_z w128 a))) → result ≡ w *ℤ a
  pub bound : unsigned_abs (w *ℤ a) ≤ 10 ^ 32

pub times : (w a result : ℤ) → unsigned_abs w ≤ 1000000 → unsigned_abs a ≤ 10 ^ 26 → IsProduct w a result
times w a result weight amount =
    let narrow : FitsSigned w64 w = fits_signed_from_abs w64 w (omega arith) in
    let wide : FitsSigned w128 w = fits_signed_from_abs w128 w (omega arith) in
    let own : FitsSigned w128 a = fits_signed_from_abs w128 a (omega arith) in
    let size : unsigned_abs (w *ℤ a) ≤ 10 ^ 32 = rw (unsigned_abs-mul w a) (mul-le-mul weight amount) in
    let whole : FitsSigned w128 (w *ℤ a) = fits_signed_from_abs w128 (w *ℤ a) (omega arith) in
    record {
      fits = rw (to_z-of_z narrow, to_z-of_z wide, to_z-of_z own) whole;
      value = rw (to_z-of_z narrow, to_z-of_z wide, to_z-of_z own, to_z-of_z whole) (λ e. e);
      bound = size;
    }

sum_bound : (a b : ℤ) → unsigned_abs (a +ℤ b) ≤ unsigned_abs a + unsigned_abs b
sum_bound (pos a) (pos b) = omega (arith, ints)
sum_bound (pos a) (negsuc b) = omega (arith, ints)
sum_bound (negsuc a) (pos b) = omega (arith, ints)
sum_bound (negsuc a) (negsuc b) = omega (arith, ints)

-- a sum as the code has it
pub record IsSum (a b : ℤ) : Type 0 where
  pub fits : FitsSigned w128 (to_z w128 (of_z w128 a) +ℤ to_z w128 (of_z w128 b))
  pub value : to_z w128 (of_z w128 (to_z w128 (of_z w128 a) +ℤ to_z w128 (of_z w128 b))) ≡ a +ℤ b
  pub bound : unsigned_abs (a +ℤ b) ≤ unsigned_abs a + 10 ^ 32

pub sum_is : (a b : ℤ) → unsigned_abs a ≤ 4096 * 10 ^ 32 → unsigned_abs b ≤ 10 ^ 32 → IsSum a b
sum_is a b sum product =
    let one : FitsSigned w128 a = fits_signed_from_abs w128 a (omega arith) in
    let other : FitsSigned w128 b = fits_signed_from_abs w128 b (omega arith) in
    let bound = sum_bound a b in
    let whole : FitsSigned w128 (a +ℤ b) = fits_signed_from_abs w128 (a +ℤ b) (omega (arith, bound, sum, product)) in
    record {
      fits = rw (to_z-of_z one, to_z-of_z other) whole;
      value = rw (to_z-of_z one, to_z-of_z other, to_z-of_z whole) refl;
      bound = omega (arith, bound, product);
    }
