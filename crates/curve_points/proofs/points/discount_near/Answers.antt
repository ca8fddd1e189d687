use Rattle.std.proofs.Common.{◌∙◌, ◌≡◌, sym}
use Rattle.curve_points.proofs.PointLemmas.{discount_before, discount_there, discount_beyond}
use Rattle.std.proofs.Common.{ap, List, Some, None}
use Rattle.curve_points.specs.Curve.{origin}
use Rattle.curve_points.specs.Point.{beyond}
use Rattle.curve_points.specs.declared.curves.CurveNode.{CurveNode}
use Rattle.curve_points.proofs.points.discount_near.Goals as goal
use Rattle.curve_points.proofs.points.discount_near.Goals.{After-factor_beyond_near}

pub returns-then-is_before : goal.returns-then-is_before
returns-then-is_before c = rw (← c.curve.view_is) (discount_before _ c.args.day (sym c.is_before.ensures ∙ c.if-is_before.true))

pub returns-then-eq : goal.returns-then-eq
returns-then-eq c = rw (← c.curve.view_is) (discount_there _ c.args.day (sym c.is_before.ensures ∙ c.if-is_before.false) (sym c.eq.ensures ∙ c.if-eq.true))

found : (c : After-factor_beyond_near) → c.factor_beyond_near.result ≡ beyond (origin c.curve.inside.reference) c.curve.inside.nodes c.args.day
found c = c.factor_beyond_near.ensures ∙ ap (λ (nodes : List CurveNode). beyond (origin c.curve.inside.reference) nodes c.args.day) c.items.ensures

pub returns-in-Some : goal.returns-in-Some
returns-in-Some c = rw (← c.curve.view_is) (discount_beyond _ c.args.day (Some c.in-Some.factor) (sym c.is_before.ensures ∙ c.if-is_before.false) (sym c.eq.ensures ∙ c.if-eq.false) (sym c.in-Some.is ∙ found c.before))

pub returns-in-None : goal.returns-in-None
returns-in-None c = rw (← c.curve.view_is) (discount_beyond _ c.args.day None (sym c.is_before.ensures ∙ c.if-is_before.false) (sym c.eq.ensures ∙ c.if-eq.false) (sym c.in-None.is ∙ found c.before))
