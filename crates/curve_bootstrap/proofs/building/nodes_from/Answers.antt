use Rattle.std.proofs.Common.{arith, ◌≡◌, ◌∙◌, ◌<◌, sym, ap, subst, length, List, [], ◌∷◌, ◌++◌, ◌<ℤ◌, Err}
use Rattle.curve_points.specs.declared.curves.CurveNode.{CurveNode}
use Rattle.curve_points.specs.Curve.{IsRisingFrom, origin}
use Rattle.curve_bootstrap.specs.Node.{last_of}
use Rattle.curve_bootstrap.specs.Built.{coupons_of, node_by}
use Rattle.curve_bootstrap.proofs.NodeLemmas.{rising_push, last_push}
use Rattle.curve_bootstrap.proofs.GivenLemmas.{gives_by}
use Rattle.curve_bootstrap.proofs.BuiltLemmas.{nodes_more, nodes_fault, nodes_done}
use Rattle.curve_bootstrap.proofs.LedLemmas.{led_on, led_fault, led_all}
use Rattle.curve_bootstrap.proofs.MemoryLemmas.{took_first, first_fault}
use Rattle.curve_bootstrap.proofs.building.nodes_from.Goals as goal

pub returns-clause-day : goal.returns-clause-day
returns-clause-day c = led_all _ c.args.calendar.now c.args.reference c.args.helpers.now c.loop-at.at c.loop-at-test.false c.loop-at.invariant.led

pub returns-in-Err-clause-day : goal.returns-in-Err-clause-day
returns-in-Err-clause-day c =
    led_fault _ _ c.args.calendar.now c.args.reference c.args.helpers.now c.loop-at.at c.index-helpers-at.result c.in-Err.fault c.numbered.result
    c.loop-at-test.true c.index-helpers-at.is c.loop-at.invariant.led c.in-Err.ensures.day c.numbered.ensures

pub returns-clause-given : goal.returns-clause-given
returns-clause-given c =
    c.loop-at.invariant.due ∙ nodes_done (coupons_of c.args.calendar.now c.args.reference) (origin c.args.reference) _ c.loop-at.nodes c.args.helpers.now c.args.rates.now c.loop-at.at c.loop-at-test.false

pub returns-in-Err-clause-given : goal.returns-in-Err-clause-given
returns-in-Err-clause-given c =
    let rates : c.loop-at.at < length c.args.rates.now = omega (arith, c.requires.rates) in
    let coupons = coupons_of c.args.calendar.now c.args.reference in
    let same = ap (λ (ns : List CurveNode). node_by (origin c.args.reference) ns c.index-rates-at.result (coupons c.index-helpers-at.result)) c.items.ensures in
    nodes_fault coupons (origin c.args.reference) c.loop-at.nodes c.args.helpers.now c.args.rates.now c.loop-at.at c.index-helpers-at.result c.index-rates-at.result c.in-Err.fault c.numbered.result
    _ c.loop-at.invariant.due c.loop-at-test.true c.index-helpers-at.is rates c.index-rates-at.is (gives_by {X = CurveNode} {Y = CurveNode} (λ node. node) _ _ (Err c.in-Err.fault) same c.in-Err.ensures.given) c.numbered.ensures

pub returns-clause-memory : goal.returns-clause-memory
returns-clause-memory c = λ none. sym (returns-clause-given c)

pub returns-in-Err-clause-memory : goal.returns-in-Err-clause-memory
returns-in-Err-clause-memory c =
    let rates : c.loop-at.at < length c.args.rates.now = omega (arith, c.requires.rates) in
    first_fault c.args.calendar.now c.args.reference c.args.helpers.now c.args.rates.now c.loop-at.at c.loop-at.nodes _ c.index-helpers-at.result c.index-rates-at.result c.in-Err.fault c.numbered.result
    c.loop-at-test.true c.index-helpers-at.is rates c.index-rates-at.is c.items.ensures c.in-Err.ensures.memory c.loop-at.invariant.start c.numbered.ensures

pub loop-at-preserved : goal.loop-at-preserved
loop-at-preserved c =
    let rates : c.loop-at.at < length c.args.rates.now = omega (arith, c.requires.rates) in
    let coupons = coupons_of c.args.calendar.now c.args.reference in
    let same = ap (λ (ns : List CurveNode). node_by (origin c.args.reference) ns c.index-rates-at.result (coupons c.index-helpers-at.result)) c.items.ensures in
    let pushed : c.push.new.self ≡ c.loop-at.nodes ++ c.in-Ok.found ∷ [] = c.in_ok-push-in-Ok.ensures.ok in
    let after = subst (λ (n : CurveNode). n.day <ℤ c.in-Ok.found.day) c.loop-at.invariant.last c.in-Ok.ensures.after in
    record {
      rising = subst (λ (ns : List CurveNode). IsRisingFrom c.args.reference ns) (sym pushed) (rising_push (origin c.args.reference) c.loop-at.nodes c.in-Ok.found c.loop-at.invariant.rising after);
      last = subst (λ (ns : List CurveNode). c.in-Ok.found ≡ last_of (origin c.args.reference) ns) (sym pushed) (last_push (origin c.args.reference) c.loop-at.nodes c.in-Ok.found);
      led = led_on _ _ c.args.calendar.now c.args.reference c.args.helpers.now c.loop-at.at c.index-helpers-at.result c.in-Ok.found c.loop-at-test.true c.index-helpers-at.is c.loop-at.invariant.led c.in-Ok.ensures.day;
      start = λ none. absurd (took_first c.args.calendar.now c.args.reference c.args.helpers.now c.args.rates.now c.loop-at.at c.loop-at.nodes _ c.index-helpers-at.result c.index-rates-at.result c.in-Ok.found
          c.loop-at-test.true c.index-helpers-at.is rates c.index-rates-at.is c.items.ensures c.in-Ok.ensures.day c.in-Ok.ensures.memory c.loop-at.invariant.start none);
      due = c.loop-at.invariant.due ∙ nodes_more coupons (origin c.args.reference) c.loop-at.nodes c.push.new.self c.args.helpers.now c.args.rates.now c.loop-at.at c.index-helpers-at.result c.index-rates-at.result c.in-Ok.found
          c.loop-at-test.true c.index-helpers-at.is rates c.index-rates-at.is (sym same ∙ c.in-Ok.ensures.given) pushed;
    }
