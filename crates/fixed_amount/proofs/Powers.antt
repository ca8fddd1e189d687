-- The table of powers of ten.
use Rattle.std.proofs.Common.{◌≡◌, ℕ, zero, suc, ◌-◌, ◌^◌, ◌<◌, ◌≤◌, Bool, true, ◌&&◌, T, eqb, get_or, inl, inr, arith, eq-zero-or-pos, eqb→eq}
use Rattle.std.proofs.Math.Nat.{one-le-pow, pow-le-pow_right}
use lib.Ieee.Fits.{and_l, and_r}
use Rattle.fixed_amount.specs.declared.print.TheConstants.{POWERS}

-- the first entries are powers of ten
abbrev are_powers : ℕ → Bool
are_powers zero = true
are_powers (suc n) = eqb (get_or POWERS n 0) (10 ^ n) && are_powers n

-- each of them is
entry : (count n : ℕ) → T (are_powers count) → n < count → get_or POWERS n 0 ≡ 10 ^ n
entry zero n t h = absurd (omega arith)
entry (suc count) n t h =
    elim (eq-zero-or-pos (count - n)) [
      | inl z ↦ let e : n ≡ count = omega arith in rw e (eqb→eq _ _ (and_l _ (are_powers count) t))
      | inr g ↦ entry count n (and_r _ (are_powers count) t) (omega arith)
    ]

-- so are all
pub power_at : (n : ℕ) → n < 19 → get_or POWERS n 0 ≡ 10 ^ n
power_at n h = entry 19 n tt h

-- so they are positive
pub power_positive : (n : ℕ) → n < 19 → 0 < get_or POWERS n 0
power_positive n h = rw (power_at n h) (omega (arith, one-le-pow n 10 (omega arith)))

-- and at most the last
pub power_bound : (n : ℕ) → n ≤ 18 → get_or POWERS n 0 ≤ 10 ^ 18
power_bound n h = let below : n < 19 = omega arith in
    let ten : 0 < 10 = omega arith in
    rw (power_at n below) (pow-le-pow_right ten h)
