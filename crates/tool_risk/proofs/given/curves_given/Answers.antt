use Rattle.std.proofs.Common.{◌++◌, List, Result, refl, sym, ◌∙◌, ap, subst}
use Rattle.std.proofs.Math.ListN.{drop_of_length-le}
use Rattle.std.proofs.lemmas.Result.{err_from_is_err_and}
use Rattle.curve_points.specs.Curve.{Curve}
use Rattle.desk_terms.specs.declared.cause.Cause.{Cause}
use Rattle.desk_terms.specs.Reading.{Calc}
use Rattle.desk_model.specs.Sound.{IsSound}
use Rattle.bump_model.proofs.Each.{far_none, far_more, far_stops, far_front, far_ended}
use Rattle.bump_ladder.specs.Curves.{given_asking}
use Rattle.bump_ladder.proofs.Answered.{front_asks}
use Rattle.bump_ladder.proofs.Climbing.{next_item}
use Rattle.tool_risk.specs.declared.given.GivenCurve.{GivenCurve}
use Rattle.tool_risk.specs.Given.{where_given, curves_given}
use Rattle.tool_risk.proofs.Giving.{curves_step, curves_ended}
use Rattle.tool_risk.proofs.given.curves_given.Goals as goal

pub loop-name-init : goal.loop-name-init
loop-name-init g c =
    let calc : Calc = g.B.Bench.calc c.args.bench.now in
    record {
      same = refl;
      progress = far_none given_asking calc c.args.names.now c.args.desk.now (g.B.Bench.count c.args.bench.now)
          (g.B.Bench.log c.args.bench.now);
      curves = ap (λ (l : List GivenCurve). l ++ curves_given calc c.args.desk.now.market c.args.names.now) c.new-curves.ensures.items;
      market = refl;
      sound = c.requires.sound;
      unheld = c.requires.unheld;
    }

pub curve_given-requires : goal.curve_given-requires
curve_given-requires g c = record {
  sound = subst (λ (k : Calc). IsSound k c.loop-name.desk) (sym c.loop-name.invariant.same) c.loop-name.invariant.sound;
  unheld = c.loop-name.invariant.unheld;
}

pub loop-name-preserved : goal.loop-name-preserved
loop-name-preserved g c =
    let calc : Calc = g.B.Bench.calc c.args.bench.now in
    let k : Calc = g.B.Bench.calc c.loop-name.bench in
    let market = c.args.desk.now.market in
    let names = c.args.names.now in
    let x = c.name-item.result in
    let i = c.loop-name.name-index in
    let s = c.loop-name.desk in
    let t = c.curve_given.new.desk in
    let steps = next_item names i x c.loop-name-test.true c.name-item.is in
    record {
      same = c.curve_given.ensures.same ∙ c.loop-name.invariant.same;
      progress = far_more given_asking calc _ _ k c.loop-name.invariant.same _ _ x steps s _ _ _ _ _ _
          c.loop-name.invariant.progress
          t c.in_ok-given.ensures.asks;
      curves = curves_step calc k c.loop-name.invariant.same x market s.market _ _ c.loop-name.curves.items _ c.loop-name.invariant.market steps
          (c.in_ok-push_given.ensures ∙ ap (λ (v : Result Curve Cause). c.loop-name.curves.items ++ where_given x v)
          c.in_ok-given.ensures.value)
          ∙ c.loop-name.invariant.curves;
      market = c.curve_given.ensures.market ∙ c.loop-name.invariant.market;
      sound = subst (λ (h : Calc). IsSound h t) c.loop-name.invariant.same c.curve_given.ensures.sound;
      unheld = c.curve_given.ensures.unheld;
    }

pub returns-in_err-given-clause-asks : goal.returns-in_err-given-clause-asks
returns-in_err-given-clause-asks g c =
    let p = err_from_is_err_and c.from_residual.result c.from_residual.ensures.1 in
    let steps = next_item c.args.names.now c.loop-name.name-index c.name-item.result c.loop-name-test.true
    c.name-item.is in
    front_asks _ _ _ _ _ _ _ _ p.1
    (far_front given_asking (g.B.Bench.calc c.args.bench.now) _ _ (g.B.Bench.calc c.loop-name.bench)
    c.loop-name.invariant.same _ _ c.name-item.result steps
    c.loop-name.desk _ _ _ _ _ _ c.loop-name.invariant.progress c.in_err-given.ensures.asks)

pub returns-in_err-given-clause-same : goal.returns-in_err-given-clause-same
returns-in_err-given-clause-same g c = c.curve_given.ensures.same ∙ c.loop-name.invariant.same

pub returns-in_err-given-clause-market : goal.returns-in_err-given-clause-market
returns-in_err-given-clause-market g c = c.curve_given.ensures.market ∙ c.loop-name.invariant.market

pub returns-in_err-given-clause-sound : goal.returns-in_err-given-clause-sound
returns-in_err-given-clause-sound g c =
    subst (λ (k : Calc). IsSound k c.curve_given.new.desk) c.loop-name.invariant.same c.curve_given.ensures.sound

pub returns-in_err-push_given-clause-asks : goal.returns-in_err-push_given-clause-asks
returns-in_err-push_given-clause-asks g c =
    let p = err_from_is_err_and c.from_residual-in_err-push_given.result c.from_residual-in_err-push_given.ensures.1 in
    let steps = next_item c.args.names.now c.loop-name.name-index c.name-item.result c.loop-name-test.true
    c.name-item.is in
    front_asks _ _ _ _ _ _ _ _ p.1
    (far_stops given_asking (g.B.Bench.calc c.args.bench.now) _ _ (g.B.Bench.calc c.loop-name.bench)
    c.loop-name.invariant.same _ _ c.name-item.result steps
    c.loop-name.desk _ _ _ _ _ _ c.loop-name.invariant.progress c.curve_given.new.desk c.in_ok-given.ensures.asks)

pub returns-in_err-push_given-clause-same : goal.returns-in_err-push_given-clause-same
returns-in_err-push_given-clause-same g c = c.curve_given.ensures.same ∙ c.loop-name.invariant.same

pub returns-in_err-push_given-clause-market : goal.returns-in_err-push_given-clause-market
returns-in_err-push_given-clause-market g c = c.curve_given.ensures.market ∙ c.loop-name.invariant.market

pub returns-in_err-push_given-clause-sound : goal.returns-in_err-push_given-clause-sound
returns-in_err-push_given-clause-sound g c =
    subst (λ (k : Calc). IsSound k c.curve_given.new.desk) c.loop-name.invariant.same c.curve_given.ensures.sound

pub returns-clause-curves : goal.returns-clause-curves
returns-clause-curves g c =
    curves_ended (g.B.Bench.calc c.args.bench.now) c.args.desk.now.market _ c.loop-name.curves.items (drop_of_length-le c.args.names.now c.loop-name-test.false)
    ∙ c.loop-name.invariant.curves

pub returns-clause-asks : goal.returns-clause-asks
returns-clause-asks g c =
    far_ended given_asking (g.B.Bench.calc c.args.bench.now) _ _ _ c.loop-name.desk _ _ _ _ (drop_of_length-le
    c.args.names.now c.loop-name-test.false)
    c.loop-name.invariant.progress
