use Rattle.std.proofs.Common.{arith, sym, ◌∙◌, ◌≡◌, ◌≤ℤ◌, ℤ, false, int_le}
use Rattle.std.proofs.lemmas.Int.{ints}
use Rattle.curve_points.proofs.PointLemmas.{le_false}
use Rattle.curve_bootstrap.proofs.pars.deposit_par.Goals as goal

-- an end that is not before the start
not_before : (reference end : ℤ) → int_le end reference ≡ false → reference ≤ℤ end
not_before reference end less = let later = le_false end reference less in omega (arith, ints, later)

pub coupon-only-requires : goal.coupon-only-requires
coupon-only-requires c = not_before c.reference-reference.result c.in-Some.end (sym c.is_not_after.ensures ∙ c.if-is_not_after.false)
