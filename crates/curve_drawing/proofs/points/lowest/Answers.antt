use Rattle.std.proofs.Common.{arith}
use Rattle.curve_drawing.proofs.Folding.{lowest_none, lowest_more}
use Rattle.curve_drawing.proofs.points.lowest.Goals as goal

pub loop-left-init : goal.loop-left-init
loop-left-init c = record { within = omega arith; found = lowest_none c.args.other c.args.corners.now; high = omega arith }

pub loop-left-preserved : goal.loop-left-preserved
loop-left-preserved c =
    let is = c.min-low.ensures in
    record {
      within = omega (arith, c.loop-left.invariant.within);
      found = lowest_more c.args.corners.now c.loop-left.left c.index-corners-left.result c.loop-left-test.true c.loop-left.invariant.within c.index-corners-left.is
          c.args.other c.units_of.result c.loop-left.low c.min-low.result c.units_of.ensures.value c.loop-left.invariant.found c.min-low.ensures;
      high = omega (arith, c.loop-left.invariant.high, is);
    }
