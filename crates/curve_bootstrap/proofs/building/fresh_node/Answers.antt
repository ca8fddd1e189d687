use Rattle.std.proofs.Common.{◌≡◌, ◌∙◌, false, sym, ap, subst, List, Option, Some, None, Result, Err, IfNone}
use Rattle.day_number.specs.declared.tenors.Tenor.{Tenor}
use Rattle.curve_points.specs.declared.curves.CurveNode.{CurveNode}
use Rattle.curve_bootstrap.specs.declared.coupons.Coupon.{Coupon}
use Rattle.curve_bootstrap.specs.declared.faults.HelperFault.{HelperFault}
use Rattle.curve_bootstrap.specs.declared.faults.HelperFault.TheVariants.{DateRange}
use Rattle.curve_bootstrap.specs.Built.{led_by, node_by, swap_end, takes_for}
use Rattle.curve_bootstrap.proofs.CouponLemmas.{coupons_are}
use Rattle.curve_bootstrap.proofs.GivenLemmas.{gives_by}
use Rattle.curve_bootstrap.proofs.MemoryLemmas.{gives_exact, deposit_day, swap_exact}
use Rattle.curve_bootstrap.proofs.building.fresh_node.Goals as goal

-- the node is that of the coupons of the helper's kind
pub returns-in-None-clause-memory : goal.returns-in-None-clause-memory
returns-in-None-clause-memory c = λ none. c.deposit_node.ensures.given
    ∙ ap (λ (cs : Result (List Coupon) HelperFault). node_by c.args.from.now c.args.nodes.now c.args.rate cs) (coupons_are c.args.calendar.now c.args.from.now.day c.args.helper.now None c.in-None.is)

pub returns-in-None-clause-given : goal.returns-in-None-clause-given
returns-in-None-clause-given c = gives_exact _ _ (c.deposit_node.ensures.given
    ∙ ap (λ (cs : Result (List Coupon) HelperFault). node_by c.args.from.now c.args.nodes.now c.args.rate cs) (coupons_are c.args.calendar.now c.args.from.now.day c.args.helper.now None c.in-None.is))

pub returns-in-None-clause-day : goal.returns-in-None-clause-day
returns-in-None-clause-day c =
    subst (λ (e : Option Tenor). IfNone (led_by c.args.calendar.now c.args.from.now.day c.args.helper.now e) (c.deposit_node.result ≡ Err DateRange)) (sym c.in-None.is)
    (deposit_day _ c.args.helper.now.counter _ c.args.from.now c.args.nodes.now c.args.rate c.deposit_node.result c.deposit_node.ensures.given)

pub returns-in-Some-clause-given : goal.returns-in-Some-clause-given
returns-in-Some-clause-given c =
    gives_by {X = CurveNode} {Y = CurveNode} (λ node. node) _ _ _
    (ap (λ (cs : Result (List Coupon) HelperFault). node_by c.args.from.now c.args.nodes.now c.args.rate cs) (coupons_are c.args.calendar.now c.args.from.now.day c.args.helper.now (Some c.in-Some.every) c.in-Some.is))
    c.swap_node.ensures.given

pub returns-in-Some-clause-day : goal.returns-in-Some-clause-day
returns-in-Some-clause-day c =
    subst (λ (e : Option Tenor). IfNone (led_by c.args.calendar.now c.args.from.now.day c.args.helper.now e) (c.swap_node.result ≡ Err DateRange)) (sym c.in-Some.is) c.swap_node.ensures.day

pub returns-in-Some-clause-memory : goal.returns-in-Some-clause-memory
returns-in-Some-clause-memory c = λ none.
    swap_exact (swap_end c.args.calendar.now c.args.from.now.day c.args.helper.now) _ _
    (subst (λ (e : Option Tenor). takes_for c.args.calendar.now c.args.from.now c.args.nodes.now c.args.rate c.args.helper.now e ≡ false) c.in-Some.is none)
    c.swap_node.ensures.day (returns-in-Some-clause-given c)
