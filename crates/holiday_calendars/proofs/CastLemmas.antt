-- Numbers through their casts.
use Rattle.std.proofs.Common.{◌≡◌, false, nat_eq, ◌||◌, sym, ap, ◌∙◌, arith, w32, to_z, of_z, to_z-of_z, FitsSigned, ℤ, pos, ◌+ℤ◌, ◌-ℤ◌, unsigned_abs}
use Rattle.std.proofs.lemmas.Bool.Decides.{nat_tests}
use Rattle.std.specs.Ordering.{int_eq}
use Rattle.std.specs.Int.{int_rem_euclid}
use Rattle.jiff_core.proofs.SignedLemmas.{signed_arith, int_rem_euclid-parts, nat_eq-bits}
use Rattle.jiff_core.specs.Calendar.{weekday_number}
use Rattle.day_number.specs.Day.{IsDayNumber}

-- the weekday of a day, through the casts of its remainder
pub weekday_cast : (number rest : ℤ) → IsDayNumber number → rest ≡ int_rem_euclid (to_z w32 (of_z w32 (to_z w32 (of_z w32 number) +ℤ pos 3))) (pos 7) → unsigned_abs (to_z w32 (of_z w32 rest)) ≡ weekday_number number
unfolding weekday_number
weekday_cast number rest h e =
    let fits : FitsSigned w32 number = omega (arith, signed_arith) in
    let sum_fits : FitsSigned w32 (number +ℤ pos 3) = omega (arith, signed_arith) in
    let parts = int_rem_euclid-parts (number +ℤ pos 3) 7 (omega arith) in
    let rest_fits : FitsSigned w32 (int_rem_euclid (number +ℤ pos 3) (pos 7)) = omega (arith, signed_arith) in
    let same : rest ≡ int_rem_euclid (number +ℤ pos 3) (pos 7) = e ∙ ap (λ z. int_rem_euclid (to_z w32 (of_z w32 (z +ℤ pos 3))) (pos 7)) (to_z-of_z fits) ∙ ap (λ z. int_rem_euclid z (pos 7)) (to_z-of_z sum_fits) in
    ap (λ z. unsigned_abs (to_z w32 (of_z w32 z))) same ∙ ap unsigned_abs (to_z-of_z rest_fits)

-- a day that is not two days before another is beside it where it is one day after it
pub beside : (day easter first second sunday : ℤ) → first ≡ day → second ≡ day → sunday ≡ easter → IsDayNumber day → IsDayNumber easter → (of_z w32 first ≡ of_z w32 (to_z w32 (of_z w32 sunday) -ℤ pos 2) → ⊥) → nat_eq (of_z w32 second) (of_z w32 (to_z w32 (of_z w32 sunday) +ℤ pos 1)) ≡ (int_eq day (easter -ℤ pos 2) || int_eq day (easter +ℤ pos 1))
beside day easter first second sunday f s e inside there apart =
    let fits : FitsSigned w32 easter = omega (arith, signed_arith) in
    let bits : to_z w32 (of_z w32 sunday) ≡ easter = ap (λ z. to_z w32 (of_z w32 z)) e ∙ to_z-of_z fits in
    let own : FitsSigned w32 day = omega (arith, signed_arith) in
    let before : FitsSigned w32 (easter -ℤ pos 2) = omega (arith, signed_arith) in
    let after : FitsSigned w32 (easter +ℤ pos 1) = omega (arith, signed_arith) in
    let apart_here : of_z w32 day ≡ of_z w32 (easter -ℤ pos 2) → ⊥ = rw (f, bits) at apart in
    let other : nat_eq (of_z w32 day) (of_z w32 (easter -ℤ pos 2)) ≡ false = grind (arith, nat_tests) in
    let no : int_eq day (easter -ℤ pos 2) ≡ false = sym (nat_eq-bits w32 day (easter -ℤ pos 2) own before) ∙ other in
    ap (λ z. nat_eq (of_z w32 z) (of_z w32 (to_z w32 (of_z w32 sunday) +ℤ pos 1))) s
    ∙ ap (λ z. nat_eq (of_z w32 day) (of_z w32 (z +ℤ pos 1))) bits
    ∙ nat_eq-bits w32 day (easter +ℤ pos 1) own after
    ∙ ap (λ b. b || int_eq day (easter +ℤ pos 1)) (sym no)
