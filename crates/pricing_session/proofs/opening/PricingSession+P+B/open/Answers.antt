use Rattle.std.proofs.Common.{length, sym, ◌∙◌, ap}
use Rattle.pricing_session.proofs.opening.PricingSession+P+B.open.Goals as goal

pub invariant_of-session : goal.invariant_of-session
invariant_of-session g c = (
  c.in_ok-session.ensures.sound (g.B.Bench.calc c.args.bench),
  c.len.ensures ∙ sym (ap length c.in_ok-session.ensures.actions),
)
