-- Sums over parts, from a place on.
use Rattle.std.proofs.Common.{◌≡◌, ℕ, ◌+◌, ◌<◌, ◌≤◌, ◌^◌, arith, refl, sym, ap, ◌∙◌, ℤ, pos, neg_ℤ, ◌≤ℤ◌, ◌+ℤ◌, ◌*ℤ◌, List, [], ◌∷◌, length, get_or, drop, drop_of_length-le, Result, Ok, Err, IsErrAnd, to_z, of_z, w64, FitsSigned, to_z-of_z}
use Rattle.std.specs.Int.{w128}
use Rattle.std.specs.Int.RustNames.{unsigned_abs}
use Rattle.std.specs.List.{All}
use Rattle.std.proofs.Math.IntN.{+ℤ_assoc}
use Rattle.std.proofs.lemmas.Int.{ints, fits_signed_from_abs}
use Rattle.std.proofs.lemmas.List.{drop_more}
use Rattle.std.proofs.lemmas.List.Elements.{All-nil, All-cons}
use Rattle.jiff_core.proofs.SignedLemmas.{signed_arith, unsigned_abs-parts, one_part, product_within}
use Rattle.desk_terms.specs.declared.cause.Cause.{Cause}
use Rattle.desk_terms.specs.declared.terms.Part.{Part}
use Rattle.desk_terms.specs.Parts.{IsWeight, AreEachInRange}
use Rattle.tool_risk.specs.Dues.{added, and_sum, summed}

-- the next of several, and the others
next : {A : Type 0} (xs : List A) (at : ℕ) (x : A) → at < length xs → x ≡ get_or xs at x → drop at xs ≡ x ∷ drop (at + 1) xs
next {A} xs at x within is = drop_more xs at x within ∙ ap (λ (y : A). y ∷ drop (at + 1) xs) (sym is)

-- ---- parts

nothing_before : (z : ℤ) → pos 0 +ℤ z ≡ z
nothing_before z = omega (arith, ints)

nothing_behind : (z : ℤ) → z +ℤ pos 0 ≡ z
nothing_behind z = omega (arith, ints)

pub added_none : (r : Result ℤ Cause) → added (pos 0) r ≡ r
added_none (Ok units) = ap (λ (z : ℤ). Ok z) (nothing_before units)
added_none (Err cause) = refl

added_more : (a b : ℤ) (r : Result ℤ Cause) → added (a +ℤ b) r ≡ added a (added b r)
added_more a b (Ok units) = ap (λ (z : ℤ). Ok z) (+ℤ_assoc a b units)
added_more a b (Err cause) = refl

module _ (value : Part → Result ℤ Cause) (parts : List Part) (at : ℕ) (part : Part) (sum : ℤ) (within : at < length parts) (is : part ≡ get_or parts at part) where
  step : summed value (drop at parts) ≡ and_sum (value part) (summed value (drop (at + 1) parts))
  step = ap (summed value) (next parts at part within is)

  pub one_more : (units : ℤ) → value part ≡ Ok units
      → added sum (summed value (drop at parts)) ≡ added (sum +ℤ units) (summed value (drop (at + 1) parts))
  one_more units there =
      ap (added sum) (step ∙ ap (λ (r : Result ℤ Cause). and_sum r (summed value (drop (at + 1) parts))) there)
      ∙ sym (added_more sum units (summed value (drop (at + 1) parts)))

  pub refused : (cause : Cause) → value part ≡ Err cause → added sum (summed value (drop at parts)) ≡ Err cause
  refused cause by = ap (added sum) (step ∙ ap (λ (r : Result ℤ Cause). and_sum r (summed value (drop (at + 1) parts))) by)

pub finished : (value : Part → Result ℤ Cause) (parts : List Part) (at : ℕ) (sum : ℤ) → length parts ≤ at
    → added sum (summed value (drop at parts)) ≡ Ok sum
finished value parts at sum past = rw (drop_of_length-le parts past) (ap (λ (z : ℤ). Ok z) (nothing_behind sum))

-- what is refused by the cause that is due
pub is_refused : (due r : Result ℤ Cause) (cause : Cause) → due ≡ Err cause → IsErrAnd r (λ (e : Cause). e ≡ cause) → r ≡ due
is_refused due (Ok units) cause is by = absurd by
is_refused due (Err e) cause is by = ap (λ (c : Cause). Err c) by ∙ sym is

-- each weight is within its limit
pub weights_are : (parts : List Part) → AreEachInRange parts → All (λ part. IsWeight part.weight) parts
weights_are [] are = All-nil (λ part. IsWeight part.weight)
weights_are (part ∷ parts) are = All-cons (λ part. IsWeight part.weight) part parts are.0 (weights_are parts are.1.1)

-- ---- numbers of the code

pub amount_bound : (a : ℤ) → neg_ℤ (pos (10 ^ 26)) ≤ℤ a → a ≤ℤ pos (10 ^ 26) → unsigned_abs a ≤ 10 ^ 26
amount_bound a low high = omega (arith, signed_arith, unsigned_abs-parts a, one_part a)

pub record IsProduct (w a result : ℤ) : Type 0 where
  pub fits : FitsSigned w128 (to_z w128 (of_z w128 (to_z w64 (of_z w64 w))) *ℤ to_z w128 (of_z w128 a))
  pub value : result ≡ to_z w128 (of_z w128 (to_z w128 (of_z w128 (to_z w64 (of_z w64 w))) *ℤ to_z w128 (of_z w128 a))) → result ≡ w *ℤ a
  pub bound : unsigned_abs (w *ℤ a) ≤ 10 ^ 32

pub times : (w a result : ℤ) → unsigned_abs w ≤ 1000000 → unsigned_abs a ≤ 10 ^ 26 → IsProduct w a result
times w a result weight amount =
    let narrow : FitsSigned w64 w = fits_signed_from_abs w64 w (omega arith) in
    let wide : FitsSigned w128 w = fits_signed_from_abs w128 w (omega arith) in
    let own : FitsSigned w128 a = fits_signed_from_abs w128 a (omega arith) in
    let size : unsigned_abs (w *ℤ a) ≤ 10 ^ 32 = product_within w a 1000000 (10 ^ 26) weight amount in
    let whole : FitsSigned w128 (w *ℤ a) = fits_signed_from_abs w128 (w *ℤ a) (omega arith) in
    record {
      fits = rw (to_z-of_z narrow, to_z-of_z wide, to_z-of_z own) whole;
      value = rw (to_z-of_z narrow, to_z-of_z wide, to_z-of_z own, to_z-of_z whole) (λ e. e);
      bound = size;
    }
