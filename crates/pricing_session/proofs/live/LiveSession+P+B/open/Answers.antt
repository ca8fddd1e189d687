use Rattle.std.proofs.Common.{◌∙◌, length, sym, ap}
use Rattle.std.proofs.lemmas.List.{length-map}
use Rattle.live_session.proofs.Beside.{begins_beside}
use Rattle.pricing_session.proofs.live.LiveSession+P+B.open.Goals as goal

pub invariant_of-session : goal.invariant_of-session
invariant_of-session g c = (
  c.in_ok-session.ensures.sound (g.B.Bench.calc c.args.bench),
  begins_beside g.row.P.Denot c.in_ok-session.session c.in_ok-begun.begun c.new.result c.new.ensures
      (ap length c.in_ok-begun.ensures ∙ (length-map _ _ ∙ (ap length c.items.ensures
      ∙ (sym c.in_ok-script.ensures.whole.paired ∙ sym (ap length c.in_ok-session.ensures.actions))))),
)
