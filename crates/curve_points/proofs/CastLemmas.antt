-- Numbers of 128 bits through the casts of signed arithmetic.
use Rattle.std.proofs.Common.{◌≡◌, ◌*◌, ◌^◌, ◌*ℤ◌, arith, ap, ◌∙◌, ℤ, pos, ◌+ℤ◌, ◌≤ℤ◌, to_z, of_z, w64, FitsSigned}
use mir.Syntax.{w128}
use Rattle.std.proofs.lemmas.Int.{ints, to_z-of_z}

pub fits_wide : (z : ℤ) → pos 0 ≤ℤ z → z ≤ℤ pos (10 ^ 24) → FitsSigned w128 z
fits_wide z low high = omega (arith, ints)

pub cast_wide : (z : ℤ) → pos 0 ≤ℤ z → z ≤ℤ pos (10 ^ 24) → to_z w128 (of_z w128 z) ≡ z
cast_wide z low high = to_z-of_z w128 z (fits_wide z low high)

pub fits_long : (z : ℤ) → pos 0 ≤ℤ z → z ≤ℤ pos (4 * 10 ^ 12) → FitsSigned w64 z
fits_long z low high = omega (arith, ints)

pub cast_long : (z : ℤ) → pos 0 ≤ℤ z → z ≤ℤ pos (4 * 10 ^ 12) → to_z w64 (of_z w64 (to_z w128 (of_z w128 z))) ≡ z
cast_long z low high = ap (λ (v : ℤ). to_z w64 (of_z w64 v)) (to_z-of_z w128 z (omega (arith, ints))) ∙ to_z-of_z w64 z (fits_long z low high)

-- what is made of two numbers is made of numbers that they equal
pub by_both : (f : ℤ → ℤ → ℤ) (r x y a b : ℤ) → r ≡ f x y → x ≡ a → y ≡ b → r ≡ f a b
by_both f r x y a b is ex ey = is ∙ (ap (λ (z : ℤ). f z y) ex ∙ ap (f a) ey)
