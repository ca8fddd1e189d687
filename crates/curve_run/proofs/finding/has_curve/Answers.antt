use Rattle.std.proofs.Common.{◌≡◌, Bool, ◌||◌, sym, ◌∙◌, ap}
use Rattle.desk_model.specs.Market.{kind_at}
use Rattle.curve_run.specs.Named.{is_curve, curve_below}
use Rattle.curve_run.proofs.Served.{curve_next, curve_first}
use Rattle.curve_run.proofs.finding.has_curve.Goals.{then-is_curve, else-is_curve}
use Rattle.curve_run.proofs.finding.has_curve.Goals as goal

pub loop-number-init : goal.loop-number-init
loop-number-init c = sym (curve_first c.args.desk.now.market)

pub loop-number-preserved : goal.loop-number-preserved
loop-number-preserved c =
    let market = c.args.desk.now.market in
    let n = c.loop-number.number in
    let is : c.is_curve.result ≡ is_curve (kind_at market n) = rw (c.kind.ensures, c.deref.ensures) at c.is_curve.ensures in
    elim c.if-is_curve.branch [
      | then-is_curve w ↦ w.found-is ∙ w.if-is_curve.true ∙ sym (curve_next market n ∙ ap (λ (b : Bool). b || curve_below market n) (sym is ∙ w.if-is_curve.true))
      | else-is_curve w ↦ w.found-is ∙ c.loop-number.invariant ∙ sym (curve_next market n ∙ ap (λ (b : Bool). b || curve_below market n) (sym is ∙ w.if-is_curve.false))
    ]
