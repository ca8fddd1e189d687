-- Lemmas on the range of 64 bits.
use Rattle.std.proofs.Common.{◌≡◌, ℕ, zero, suc, ◌-◌, ◌*◌, ◌^◌, ◌<◌, ◌≤◌, ℤ, pos, negsuc, neg_ℤ, Bool, true, false, refl, sym, ◌∙◌, arith, min, Ok, Err, inl, inr, ◌≤ℤ◌, ◌<ℤ◌, ◌⊎◌}
use Rattle.std.proofs.lemmas.Int.{ints, by_lt_z}
use Rattle.std.proofs.Math.Nat.{le-mul_of_pos_right}
use Rattle.std.proofs.lemmas.Bool.{cases_lt, lt-ltb, le-ltb, le-leb, lt-leb}
use Rattle.fixed_amount.specs.declared.decimal.DecimalFault.TheVariants.{Range}
use Rattle.fixed_amount.specs.Decimal.{in_range, signed}

-- a size fits below zero up to 2^63
pub in_range_minus : (size : ℕ) → size ≤ 2 ^ 63 → in_range (neg_ℤ (pos size)) ≡ Ok (neg_ℤ (pos size))
in_range_minus zero h = refl
in_range_minus (suc size) h = simp (le-leb size (2 ^ 63 - 1) (omega arith))

pub in_range_far_minus : (size : ℕ) → 2 ^ 63 < size → in_range (neg_ℤ (pos size)) ≡ Err Range
in_range_far_minus zero h = absurd (omega arith)
in_range_far_minus (suc size) h = simp (lt-leb size (2 ^ 63 - 1) (omega arith))

-- a size fits above zero below 2^63
pub in_range_plus : (size : ℕ) → size < 2 ^ 63 → in_range (pos size) ≡ Ok (pos size)
in_range_plus size h = simp (lt-ltb size (2 ^ 63) h)

pub in_range_far_plus : (size : ℕ) → 2 ^ 63 ≤ size → in_range (pos size) ≡ Err Range
in_range_far_plus size h = simp (le-ltb size (2 ^ 63) h)

-- a size beyond 2^63 fits on neither side
pub in_range_far : (negative : Bool) (size : ℕ) → 2 ^ 63 < size → in_range (signed negative size) ≡ Err Range
in_range_far true size h = in_range_far_minus size h
in_range_far false size h = in_range_far_plus size (omega arith)

-- a number cut at 10^19, times another and cut to 64 bits, fits where the product does
pub in_range_capped : (negative : Bool) (number power : ℕ) → 0 < power → in_range (signed negative (min (min number (10 ^ 19) * power) (2 ^ 64 - 1))) ≡ in_range (signed negative (number * power))
in_range_capped negative number power some =
    elim (cases_lt (number * power) (2 ^ 64)) as (λ _. in_range (signed negative (min (min number (10 ^ 19) * power) (2 ^ 64 - 1))) ≡ in_range (signed negative (number * power))) [
      | inl a ↦ elim (cases_lt number (10 ^ 19)) as (λ _. in_range (signed negative (min (min number (10 ^ 19) * power) (2 ^ 64 - 1))) ≡ in_range (signed negative (number * power))) [
        | inl b ↦ (let e : min number (10 ^ 19) ≡ number = omega arith in let f : min (number * power) (2 ^ 64 - 1) ≡ number * power = omega arith in rw (e, f))
        | inr b ↦ far b
      ]
      | inr a ↦ elim (cases_lt number (10 ^ 19)) as (λ _. in_range (signed negative (min (min number (10 ^ 19) * power) (2 ^ 64 - 1))) ≡ in_range (signed negative (number * power))) [
        | inl b ↦ (let e : min number (10 ^ 19) ≡ number = omega arith in rw e (in_range_far negative (min (number * power) (2 ^ 64 - 1)) (omega arith) ∙ sym (in_range_far negative (number * power) (omega arith))))
        | inr b ↦ far b
      ]
    ] where
      far : 10 ^ 19 ≤ number → in_range (signed negative (min (min number (10 ^ 19) * power) (2 ^ 64 - 1))) ≡ in_range (signed negative (number * power))
      far b =
          let e : min number (10 ^ 19) ≡ 10 ^ 19 = omega arith in
          rw e (in_range_far negative (min (10 ^ 19 * power) (2 ^ 64 - 1)) (omega arith) ∙ sym (in_range_far negative (number * power) (omega (arith, le-mul_of_pos_right number some))))

-- a number of 64 bits is in range
pub in_range_fits : (units : ℤ) → neg_ℤ (pos (2 ^ 63)) ≤ℤ units → units <ℤ pos (2 ^ 63) → in_range units ≡ Ok units
in_range_fits (pos n) low high = in_range_plus n (omega (arith, ints))
in_range_fits (negsuc n) low high = in_range_minus (suc n) (omega (arith, ints))

-- and another is not
pub in_range_out : (units : ℤ) → (units <ℤ neg_ℤ (pos (2 ^ 63))) ⊎ (pos (2 ^ 63) ≤ℤ units) → in_range units ≡ Err Range
in_range_out (pos n) (inl h) = absurd (omega (arith, ints))
in_range_out (pos n) (inr h) = in_range_far_plus n (omega (arith, ints))
in_range_out (negsuc n) (inl h) = in_range_far_minus (suc n) (omega (arith, ints))
in_range_out (negsuc n) (inr h) = absurd (omega (arith, ints))

-- a number is one of 64 bits, or below them or above
pub range_cases : (units : ℤ) → ((neg_ℤ (pos (2 ^ 63)) ≤ℤ units) × (units <ℤ pos (2 ^ 63))) ⊎ ((units <ℤ neg_ℤ (pos (2 ^ 63))) ⊎ (pos (2 ^ 63) ≤ℤ units))
range_cases units = by_lt_z units (neg_ℤ (pos (2 ^ 63)))
    (λ below. inr (inl below))
    (λ low. by_lt_z units (pos (2 ^ 63)) (λ high. inl (low, high)) (λ above. inr (inr above)))
