-- Lemmas on sums over coupons.
use Rattle.std.proofs.Common.{◌≡◌, ℕ, ◌+◌, ◌<◌, arith, refl, ap, ◌∙◌, ℤ, pos, ◌+ℤ◌, List, [], ◌∷◌, ◌++◌, length, take, get_or, ◌^◌, ◌≤ℤ◌, to_z, of_z}
use mir.Syntax.{w128}
use Rattle.std.proofs.lemmas.Int.{ints, to_z-of_z}
use Rattle.std.proofs.lemmas.List.{take_more}
use Rattle.curve_bootstrap.specs.declared.coupons.Coupon.{Coupon}
use Rattle.curve_bootstrap.specs.Coupon.{total}

total-append : (f : Coupon → ℤ) (xs : List Coupon) (c : Coupon) → total f (xs ++ c ∷ []) ≡ total f xs +ℤ f c
unfolding total
total-append f [] c = omega (arith, ints)
total-append f (x ∷ xs) c = let next = total-append f xs c in omega (arith, ints, next)

-- one coupon more
pub total_more : (f : Coupon → ℤ) (xs : List Coupon) (i : ℕ) (d : Coupon) → i < length xs → total f (take (i + 1) xs) ≡ total f (take i xs) +ℤ f (get_or xs i d)
total_more f xs i d h = ap (total f) (take_more xs i d h) ∙ total-append f (take i xs) (get_or xs i d)

-- none
pub total_none : (f : Coupon → ℤ) → pos 0 ≡ total f []
unfolding total
total_none f = refl

-- one coupon more through the casts
pub sum_through : (f : Coupon → ℤ) (xs : List Coupon) (i : ℕ) (d : Coupon) (s p : ℤ) → i < length xs → d ≡ get_or xs i d → pos 0 ≤ℤ s → s ≤ℤ pos (10 ^ 30) → pos 0 ≤ℤ p → p ≤ℤ pos (10 ^ 30) → s ≡ total f (take i xs) → p ≡ f d → to_z w128 (of_z w128 (s +ℤ to_z w128 (of_z w128 p))) ≡ total f (take (i + 1) xs)
sum_through f xs i d s p h item sl sh pl ph is ip =
    let ep = to_z-of_z w128 p (omega (arith, ints)) in
    let et = to_z-of_z w128 (s +ℤ p) (omega (arith, ints)) in
    let more = total_more f xs i d h in
    rw (ep, et, more) (ap (λ (z : ℤ). z +ℤ p) is ∙ ap (λ (z : ℤ). total f (take i xs) +ℤ z) (ip ∙ ap f item))

-- the sum over two parts
pub total_both : (f : Coupon → ℤ) (xs ys : List Coupon) → total f (xs ++ ys) ≡ total f xs +ℤ total f ys
unfolding total
total_both f [] ys = omega (arith, ints)
total_both f (x ∷ xs) ys = let next = total_both f xs ys in omega (arith, ints, next)
