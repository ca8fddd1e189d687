use Rattle.std.proofs.Common.{arith}
use Rattle.curve_drawing.proofs.Folding.{highest_none, highest_more}
use Rattle.curve_drawing.proofs.points.highest.Goals as goal

pub loop-left-init : goal.loop-left-init
loop-left-init c = record { within = omega arith; found = highest_none c.args.other c.args.corners.now; bound = omega arith }

pub loop-left-preserved : goal.loop-left-preserved
loop-left-preserved c =
    let is = c.max-high.ensures in
    record {
      within = omega (arith, c.loop-left.invariant.within);
      found = highest_more c.args.corners.now c.loop-left.left c.index-corners-left.result c.loop-left-test.true c.loop-left.invariant.within c.index-corners-left.is
          c.args.other c.units_of.result c.loop-left.high c.max-high.result c.units_of.ensures.value c.loop-left.invariant.found c.max-high.ensures;
      bound = omega (arith, c.loop-left.invariant.bound, c.units_of.ensures.few, is);
    }
