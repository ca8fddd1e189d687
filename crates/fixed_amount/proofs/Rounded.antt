-- Lemmas on rounded quotients.
use Rattle.std.proofs.Common.{◌≡◌, ℕ, zero, suc, ◌+◌, ◌*◌, ◌/◌, ◌%◌, ◌<◌, ◌≤◌, ◌==◌, ℤ, pos, negsuc, neg_ℤ, ◌-ℤ◌, ◌*ℤ◌, true, false, refl, sym, ap, ◌∙◌, arith, unsigned_abs, int_le, nat_le, inl, inr, if◌then◌else◌}
use Rattle.std.proofs.lemmas.Bool.{leb-false, cases_eq, cases_lt, eq-eqb, ne_eqb, le-leb, lt-leb}
use Rattle.std.proofs.lemmas.Int.{ints}
use Rattle.std.proofs.lemmas.Nat.{div-add-mod', mod_below, le-div}
use Rattle.std.proofs.Math.Nat.{le-mul_of_pos_right, mul-le-mul_right, le_of_mul-le-mul_right}
use Rattle.std.proofs.Math.IntN.{neg_ℤ-neg_ℤ}
use Rattle.fixed_amount.specs.declared.units.Rounding.{Rounding}
use Rattle.fixed_amount.specs.declared.units.Rounding.TheVariants.{Down, Up, Closest}
use Rattle.fixed_amount.specs.Rounding.{rounded, with_sign_of, down, up, closest, distance, HasSignOf, IsDown, IsUp, IsClosest}

-- the quotient of a negative numerator mirrors that of its magnitude
pub rounded_minus : (how : Rounding) (n d : ℕ) → rounded how (negsuc n) d ≡ neg_ℤ (rounded how (pos (suc n)) d)
rounded_minus Down n d = refl
rounded_minus Up n d = refl
rounded_minus Closest n d = refl

-- the same, where the size of the quotient is known
pub rounded_below : (how : Rounding) (num : ℤ) (d size : ℕ) → int_le (pos 0) num ≡ false → pos size ≡ rounded how (pos (unsigned_abs num)) d → rounded how num d ≡ neg_ℤ (pos size)
rounded_below how (pos n) d size below is = absurd (omega (arith, leb-false 0 n below))
rounded_below how (negsuc n) d size below is = rounded_minus how n d ∙ ap neg_ℤ (sym is)

-- the magnitude of a number made of a magnitude and a sign
pub abs_with_sign : (n : ℤ) (size : ℕ) → unsigned_abs (with_sign_of n size) ≡ size
abs_with_sign (pos n) size = refl
abs_with_sign (negsuc n) zero = refl
abs_with_sign (negsuc n) (suc size) = refl

-- a magnitude of at most n's takes n's sign
with_sign_of-sign : (n : ℤ) (size : ℕ) → size ≤ unsigned_abs n → HasSignOf n (with_sign_of n size)
with_sign_of-sign (pos n) size h = record {
  above = λ p. omega (arith, ints);
  below = λ p. omega (arith, ints);
}
with_sign_of-sign (negsuc n) size h = record {
  above = λ p. omega (arith, ints);
  below = λ p. omega (arith, ints);
}

-- the size of a quotient rounded away from zero
up_size : (a d : ℕ) → 0 < d → let size = a / d + (if a % d == 0 then 0 else 1) in (size ≤ a) × (a ≤ size * d) × ((k : ℕ) → a ≤ k * d → size ≤ k)
up_size a d hd =
    let parts = div-add-mod' a d in
    let whole = le-mul_of_pos_right (a / d) hd in
    elim (cases_eq (a % d) 0) [
      | inl none ↦ (let b : (a % d == 0) ≡ true = eq-eqb _ _ none in
          simp b (omega arith, omega arith, λ k h. le_of_mul-le-mul_right {m = a / d + 0} {n = k} {k = d} (omega arith) hd))
      | inr some ↦ (let b : (a % d == 0) ≡ false = ne_eqb _ _ some in
          let rest = mod_below a d hd in
          simp b (
            omega arith,
            omega arith,
            λ k h. elim (cases_lt (a / d) k) [
              | inl less ↦ omega arith
              | inr more ↦ absurd (omega (arith, mul-le-mul_right d more))
            ],
          ))
    ]

-- the size of a quotient rounded to the nearest
pub closest_size : (a d : ℕ) → 0 < d → let size = a / d + (if nat_le d (2 * (a % d)) then 1 else 0) in (size ≤ a) × (2 * (size * d) ≤ 2 * a + d) × (2 * a < 2 * (size * d) + d)
closest_size a d hd =
    let parts = div-add-mod' a d in
    let whole = le-mul_of_pos_right (a / d) hd in
    let rest = mod_below a d hd in
    elim (cases_lt (2 * (a % d)) d) [
      | inl less ↦ (let b : nat_le d (2 * (a % d)) ≡ false = lt-leb _ _ less in simp b (omega arith, omega arith, omega arith))
      | inr more ↦ (let b : nat_le d (2 * (a % d)) ≡ true = le-leb _ _ more in simp b (omega arith, omega arith, omega arith))
    ]

-- a quotient rounded to the nearest is at most its numerator
pub closest_bound : (n : ℤ) (d : ℕ) → 1 ≤ d → unsigned_abs (closest n d) ≤ unsigned_abs n
closest_bound n d hd = rw (abs_with_sign n (unsigned_abs n / d + (if nat_le d (2 * (unsigned_abs n % d)) then 1 else 0))) (closest_size (unsigned_abs n) d hd).0

-- and divisor times over, within half of the divisor of it
pub closest_within : (n : ℤ) (d : ℕ) → 1 ≤ d → unsigned_abs (closest n d) * d ≤ unsigned_abs n + d / 2
closest_within n d hd = rw (abs_with_sign n (unsigned_abs n / d + (if nat_le d (2 * (unsigned_abs n % d)) then 1 else 0))) (omega (arith, (closest_size (unsigned_abs n) d hd).1))

-- twice the difference of two numbers, by bounds on them
abs_difference : (a b m : ℕ) → 2 * a ≤ 2 * b + m → 2 * b ≤ 2 * a + m → 2 * unsigned_abs (pos a -ℤ pos b) ≤ m
abs_difference a b m h k = omega (arith, ints)

-- a quotient rounded towards zero, in its own words
pub down_is : (n : ℤ) (d : ℕ) → 1 ≤ d → IsDown n d (down n d)
down_is n d hd =
    let parts = div-add-mod' (unsigned_abs n) d in
    let whole = le-mul_of_pos_right (unsigned_abs n / d) hd in
    record {
      sign = with_sign_of-sign n (unsigned_abs n / d) (omega arith);
      within = rw (abs_with_sign n (unsigned_abs n / d)) (omega arith);
      greatest = λ k h. rw (abs_with_sign n (unsigned_abs n / d)) (le-div k (unsigned_abs n) d hd h);
    }

-- a quotient rounded away from zero, in its own words
pub up_is : (n : ℤ) (d : ℕ) → 1 ≤ d → IsUp n d (up n d)
up_is n d hd =
    let size = unsigned_abs n / d + (if unsigned_abs n % d == 0 then 0 else 1) in
    let is = up_size (unsigned_abs n) d hd in
    record {
      sign = with_sign_of-sign n size is.0;
      reaches = rw (abs_with_sign n size) is.1;
      least = λ k h. rw (abs_with_sign n size) (is.2 k h);
    }

-- the product with a mirrored number
times-neg : (w : ℤ) (d : ℕ) → neg_ℤ w *ℤ pos d ≡ neg_ℤ (w *ℤ pos d)
times-neg (pos zero) d = omega (arith, ints)
times-neg (pos (suc k)) d = refl
times-neg (negsuc k) d = sym (neg_ℤ-neg_ℤ (pos (suc k * d)))

-- the difference of mirrored numbers has the same magnitude
abs_mirrored : (n w : ℤ) → unsigned_abs (neg_ℤ n -ℤ neg_ℤ w) ≡ unsigned_abs (n -ℤ w)
abs_mirrored n w = omega (arith, ints)

-- the distance of mirrored numbers
distance-neg : (n w : ℤ) (d : ℕ) → distance (neg_ℤ n) d (neg_ℤ w) ≡ distance n d w
distance-neg n w d = rw (times-neg w d) (abs_mirrored n (w *ℤ pos d))

-- a whole number above zero that is as near is not farther from zero
farthest_above : (a d size k : ℕ) → 2 * a < 2 * (size * d) + d → 2 * distance (pos a) d (pos size) ≤ d → distance (pos a) d (pos k) ≤ distance (pos a) d (pos size) → k ≤ size
farthest_above a d size k high close h =
    elim (cases_lt size k) [
      | inl more ↦ absurd (omega (arith, ints, mul-le-mul_right d more))
      | inr less ↦ less
    ]

-- one below zero is not as near
farthest_below : (a d size k : ℕ) → 0 < d → 2 * distance (pos a) d (pos size) ≤ d → distance (pos a) d (negsuc k) ≤ distance (pos a) d (pos size) → suc k ≤ size
farthest_below a d size k hd close h = let one : 1 ≤ suc k = omega arith in
    absurd (omega (arith, ints, mul-le-mul_right d one))

-- the size that is nearest, above zero
closest_above : (a d size : ℕ) → 0 < d → 2 * (size * d) ≤ 2 * a + d → 2 * a < 2 * (size * d) + d → IsClosest (pos a) d (pos size)
closest_above a d size hd low high =
    let close = abs_difference a (size * d) d (omega arith) (omega arith) in
    record {
      near = close;
      farthest = λ w. elim w as (λ v. distance (pos a) d v ≤ distance (pos a) d (pos size) → unsigned_abs v ≤ size) [
        | pos k ↦ farthest_above a d size k high close
        | negsuc k ↦ farthest_below a d size k hd close
      ];
    }

-- a mirrored number has the same magnitude
abs_neg : (z : ℤ) → unsigned_abs (neg_ℤ z) ≡ unsigned_abs z
abs_neg z = omega (arith, ints)

-- and of the mirrored number
closest_mirrored : (n z : ℤ) (d : ℕ) → IsClosest n d z → IsClosest (neg_ℤ n) d (neg_ℤ z)
closest_mirrored n z d is = record {
  near = rw (distance-neg n z d) is.near;
  farthest = λ w h.
      let turned : distance (neg_ℤ n) d w ≡ distance n d (neg_ℤ w) = ap (λ (v : ℤ). distance (neg_ℤ n) d v) (sym (neg_ℤ-neg_ℤ w)) ∙ distance-neg n (neg_ℤ w) d in
      let near = is.farthest (neg_ℤ w) (omega (arith, h, turned, distance-neg n z d)) in
      omega (arith, near, abs_neg w, abs_neg z);
}

-- a quotient rounded to the nearest, in its own words
pub closest_is : (n : ℤ) (d : ℕ) → 1 ≤ d → IsClosest n d (closest n d)
closest_is (pos a) d hd = let is = closest_size a d hd in closest_above a d _ hd is.1 is.2
closest_is (negsuc m) d hd = let is = closest_size (suc m) d hd in
    closest_mirrored (pos (suc m)) _ d (closest_above (suc m) d _ hd is.1 is.2)
