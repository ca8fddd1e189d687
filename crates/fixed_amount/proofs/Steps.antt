-- How a quotient rounded to the nearest moves with its numerator, and the whole numbers that it stays between.
use Rattle.std.proofs.Common.{ℕ, suc, ◌+◌, ◌*◌, ◌/◌, ◌%◌, ◌<◌, ◌≤◌, ℤ, pos, negsuc, ◌+ℤ◌, ◌*ℤ◌, ◌≤ℤ◌, ◌<ℤ◌, arith, nat_le, inl, inr, if◌then◌else◌}
use Rattle.std.proofs.lemmas.Bool.{cases_lt}
use Rattle.std.proofs.lemmas.Int.{ints, by_lt_z}
use Rattle.std.proofs.Math.Nat.{mul-le-mul_right}
use Rattle.std.proofs.Math.IntN.{negsuc-*ℤ-pos}
use Rattle.fixed_amount.specs.Rounding.{closest}
use Rattle.fixed_amount.proofs.Rounded.{closest_size, closest_is}

-- the size of a quotient rounded to the nearest
abbrev size : ℕ → ℕ → ℕ
size n d = n / d + (if nat_le d (2 * (n % d)) then 1 else 0)

-- a larger numerator has no smaller quotient
size_rises : (n d u : ℕ) → 0 < d → size n d ≤ size (n + u) d
size_rises n d u hd =
    let is = closest_size n d hd in
    let more = closest_size (n + u) d hd in
    elim (cases_lt (size (n + u) d) (size n d)) [
      | inl less ↦ absurd (omega (arith, mul-le-mul_right {m = suc (size (n + u) d)} {n = size n d} d less, is.1, more.2))
      | inr same ↦ same
    ]

-- and one larger by no more than the divisor one that is larger by 1 at most
size_by_one : (n d u : ℕ) → 0 < d → u ≤ d → size (n + u) d ≤ size n d + 1
size_by_one n d u hd hu =
    let is = closest_size n d hd in
    let more = closest_size (n + u) d hd in
    elim (cases_lt (size n d + 1) (size (n + u) d)) [
      | inl less ↦ absurd (omega (arith, mul-le-mul_right {m = size n d + 2} {n = size (n + u) d} d (omega arith), is.2, more.1))
      | inr same ↦ same
    ]

pub closest_rises : (n d u : ℕ) → 1 ≤ d → closest (pos n) d ≤ℤ closest (pos (n + u)) d
closest_rises n d u hd = omega (arith, ints, size_rises n d u hd)

pub closest_by_one : (n d u : ℕ) → 1 ≤ d → u ≤ d → closest (pos (n + u)) d ≤ℤ (closest (pos n) d +ℤ pos 1)
closest_by_one n d u hd hu = omega (arith, ints, size_by_one n d u hd hu)

-- a multiple of a larger number is larger by the factor at least
times_up : (z w : ℤ) (d : ℕ) → z <ℤ w → (z *ℤ pos d +ℤ pos d) ≤ℤ (w *ℤ pos d)
times_up (pos a) (pos b) d less = let up : suc a ≤ b = omega (arith, ints) in omega (arith, ints, mul-le-mul_right d up)
times_up (pos a) (negsuc b) d less = absurd (omega (arith, ints))
times_up (negsuc a) (pos b) d less = omega (arith, ints, negsuc-*ℤ-pos a d)
times_up (negsuc a) (negsuc b) d less = let up : suc b ≤ a = omega (arith, ints) in
    omega (arith, ints, negsuc-*ℤ-pos a d, negsuc-*ℤ-pos b d, mul-le-mul_right d up)

-- a quotient between two whole numbers stays between them when it is rounded
pub closest_from : (n low : ℤ) (d : ℕ) → 1 ≤ d → (low *ℤ pos d) ≤ℤ n → low ≤ℤ closest n d
closest_from n low d hd from =
    let near = (closest_is n d hd).near in
    by_lt_z (closest n d) low (λ less. absurd (omega (arith, ints, times_up (closest n d) low d less, near))) (λ more. more)

pub closest_to : (n high : ℤ) (d : ℕ) → 1 ≤ d → n ≤ℤ (high *ℤ pos d) → closest n d ≤ℤ high
closest_to n high d hd to =
    let near = (closest_is n d hd).near in
    by_lt_z high (closest n d) (λ less. absurd (omega (arith, ints, times_up high (closest n d) d less, near))) (λ more. more)
