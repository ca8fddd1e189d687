-- Rounded quotients of whole numbers.
use Rattle.std.specs.Prelude.{ℕ, ◌+◌, ◌*◌, ◌/◌, ◌%◌, ◌≤◌, ℤ, pos, negsuc, neg_ℤ, ◌-ℤ◌, ◌*ℤ◌, ◌≤ℤ◌, unsigned_abs, nat_le, ◌==◌, if◌then◌else◌}
use Rattle.fixed_amount.specs.declared.units.Rounding.{Rounding}
use Rattle.fixed_amount.specs.declared.units.Rounding.TheVariants.{Down, Up, Closest}

-- the number of this magnitude with the sign of n
abbrev pub with_sign_of : ℤ → ℕ → ℤ
with_sign_of (pos n) size = pos size
with_sign_of (negsuc n) size = neg_ℤ (pos size)

-- n / d rounded towards zero (QuantLib's Rounding::Down)
abbrev pub down : ℤ → ℕ → ℤ
down n d = with_sign_of n (unsigned_abs n / d)

-- n / d rounded away from zero (QuantLib's Rounding::Up)
abbrev pub up : ℤ → ℕ → ℤ
up n d = with_sign_of n (unsigned_abs n / d + (if unsigned_abs n % d == 0 then 0 else 1))

-- n / d rounded to the nearest whole number, a half away from zero (QuantLib's Rounding::Closest)
abbrev pub closest : ℤ → ℕ → ℤ
closest n d = with_sign_of n (unsigned_abs n / d + (if nat_le d (2 * (unsigned_abs n % d)) then 1 else 0))

-- n / d as the rounding asks
abbrev pub rounded : Rounding → ℤ → ℕ → ℤ
rounded Down n d = down n d
rounded Up n d = up n d
rounded Closest n d = closest n d

-- how far z is from n / d, in parts of d
abbrev pub distance : ℤ → ℕ → ℤ → ℕ
distance n d z = unsigned_abs (n -ℤ (z *ℤ pos d))

-- z is 0 or has the sign of n
pub record HasSignOf (n z : ℤ) : Type 0 where
  pub above : pos 0 ≤ℤ n → pos 0 ≤ℤ z
  pub below : n ≤ℤ pos 0 → z ≤ℤ pos 0

-- z has the sign of n and the greatest magnitude that d times over stays within n's
pub record IsDown (n : ℤ) (d : ℕ) (z : ℤ) : Type 0 where
  pub sign : HasSignOf n z
  pub within : unsigned_abs z * d ≤ unsigned_abs n
  pub greatest : (k : ℕ) → k * d ≤ unsigned_abs n → k ≤ unsigned_abs z

-- z has the sign of n and the least magnitude that d times over reaches n's
pub record IsUp (n : ℤ) (d : ℕ) (z : ℤ) : Type 0 where
  pub sign : HasSignOf n z
  pub reaches : unsigned_abs n ≤ unsigned_abs z * d
  pub least : (k : ℕ) → unsigned_abs n ≤ k * d → unsigned_abs z ≤ k

-- z is within half of n / d, and no whole number as near is farther from zero
pub record IsClosest (n : ℤ) (d : ℕ) (z : ℤ) : Type 0 where
  pub near : 2 * distance n d z ≤ d
  pub farthest : (w : ℤ) → distance n d w ≤ distance n d z → unsigned_abs w ≤ unsigned_abs z
