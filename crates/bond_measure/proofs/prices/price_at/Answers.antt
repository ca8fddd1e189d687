use Rattle.std.proofs.Common.{ℤ, pos, ◌≤ℤ◌, FitsSigned, arith, sym, ◌∙◌, subst}
use Rattle.std.specs.Int.{w128}
use Rattle.std.proofs.lemmas.Int.{ints, to_z-of_z, fits_signed_from_abs}
use Rattle.bond_measure.proofs.Bounds.{price_low, price_high}
use Rattle.bond_measure.proofs.prices.price_at.Goals as goal

pub returns-clause-high : goal.returns-clause-high
returns-clause-high c =
    let is = c.units.ensures ∙ c.full_price.ensures in
    let low = subst (λ (v : ℤ). pos 0 ≤ℤ v) (sym is) (price_low c.args.flows.now.flows c.args.settle _) in
    let high = subst (λ (v : ℤ). v ≤ℤ pos 16_020_000_000_000_000_000_000_000) (sym is)
    (price_high c.args.flows.now.flows c.args.settle _ c.requires.fixed c.requires.range.count.1) in
    let fits : FitsSigned w128 c.units.result = fits_signed_from_abs w128 c.units.result (omega (arith, ints, low, high)) in
    subst (λ (v : ℤ). v ≤ℤ pos 16_020_000_000_000_000_000_000_000) (sym (to_z-of_z w128 c.units.result fits)) high
