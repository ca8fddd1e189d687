use Rattle.std.proofs.Common.{refl, ap, ◌∙◌, ℤ, ◌*ℤ◌}
use Rattle.tool_risk.proofs.Summing.{amount_bound, times}
use Rattle.tool_risk.proofs.sums.times.Goals as goal

pub overflow_mul-result : goal.overflow_mul-result
overflow_mul-result c = (times c.args.weight c.amount.inside.0 c.amount.inside.0 c.requires (amount_bound c.amount.inside.0 c.amount.invariant.0 c.amount.invariant.1)).fits

pub returns-clause-value : goal.returns-clause-value
returns-clause-value c = (times c.args.weight c.amount.inside.0 _ c.requires (amount_bound c.amount.inside.0 c.amount.invariant.0 c.amount.invariant.1)).value refl ∙ ap (λ (a : ℤ). c.args.weight *ℤ a) c.amount.view_is

pub returns-clause-bound : goal.returns-clause-bound
returns-clause-bound c =
    let p = times c.args.weight c.amount.inside.0 _ c.requires (amount_bound c.amount.inside.0 c.amount.invariant.0 c.amount.invariant.1) in
    rw (p.value refl) p.bound
