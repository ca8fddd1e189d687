use Rattle.std.proofs.Common.{◌∙◌, length, sym, ap}
use Rattle.live_session.proofs.Beside.{begins_beside}
use Rattle.pricing_session.proofs.live.LiveSession+P+B.new.Goals as goal

pub invariant_of-result : goal.invariant_of-result
invariant_of-result g c = (
  c.in_ok-session.ensures.sound (g.B.Bench.calc c.args.bench),
  begins_beside g.row.P.Denot c.in_ok-session.session c.new-2.result c.new-3.result c.new-3.ensures
      (ap length c.new-2.ensures ∙ sym (ap length (c.in_ok-session.ensures.actions ∙ c.new.ensures))),
)
