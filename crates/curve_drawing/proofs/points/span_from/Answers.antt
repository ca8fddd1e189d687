use Rattle.std.proofs.Common.{arith}
use Rattle.curve_drawing.proofs.Folding.{span_none, span_more}
use Rattle.curve_drawing.proofs.points.span_from.Goals as goal

pub loop-left-init : goal.loop-left-init
loop-left-init c = record {
  within = omega arith;
  found = span_none c.args.first c.args.corners.now;
  low = omega arith;
  high = omega arith;
}

pub loop-left-preserved : goal.loop-left-preserved
loop-left-preserved c =
    let is = c.max-span.ensures in
    record {
      within = omega (arith, c.loop-left.invariant.within);
      found = span_more c.args.corners.now c.loop-left.left c.index-corners-left.result c.loop-left-test.true c.loop-left.invariant.within c.index-corners-left.is
          c.args.first c.days_from.result c.loop-left.span c.max-span.result c.days_from.ensures.value c.loop-left.invariant.found c.max-span.ensures;
      low = omega (arith, c.loop-left.invariant.low, is);
      high = omega (arith, c.loop-left.invariant.high, c.days_from.ensures.few, is);
    }
