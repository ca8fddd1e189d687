use Rattle.std.proofs.Common.{◌≡◌, ℕ, ◌≤◌, ◌-◌, ◌^◌, pos, neg_ℤ, ◌-ℤ◌, to_z, of_z, FitsSigned, sym, ◌∙◌, arith, unsigned_abs}
use Rattle.std.proofs.lemmas.Int.{ints, to_z-of_z}
use Rattle.std.specs.Int.{w128}
use Rattle.fixed_amount.proofs.Rounded.{rounded_below}
use Rattle.fixed_amount.proofs.units.div_round.Goals as goal

-- the code's way to the negative number of a size
minus_size : (size : ℕ) → (size ≡ 0 → ⊥) → size ≤ 2 ^ 127 → to_z w128 (of_z w128 (to_z w128 (of_z w128 (pos 0 -ℤ to_z w128 (size - 1))) -ℤ pos 1)) ≡ neg_ℤ (pos size)
minus_size size some small = omega (arith, ints)

pub returns : goal.returns
returns c =
    let fits : FitsSigned w128 c.args.num = c.ranges.num in
    let fits_den : FitsSigned w128 c.args.den = c.ranges.den in
    let below = simp to_z-of_z at c.if-num-ge0.false in
    let num = simp to_z-of_z at c.unsigned_abs.ensures.value in
    let den = simp to_z-of_z at c.unsigned_abs-2.ensures.value in
    let value = rw (num, den) at c.rounded_size-size.ensures.value in
    minus_size c.rounded_size-size.result c.if-size-eq0.false (omega arith)
    ∙ sym (rounded_below c.args.how c.args.num (unsigned_abs c.args.den) c.rounded_size-size.result below value)
