use Rattle.std.proofs.Common.{arith}
use Rattle.curve_drawing.proofs.Folding.{first_none, first_more}
use Rattle.curve_drawing.proofs.points.first_day.Goals as goal

pub loop-left-init : goal.loop-left-init
loop-left-init c = record { within = omega arith; found = first_none c.args.today c.args.corners.now }

pub loop-left-preserved : goal.loop-left-preserved
loop-left-preserved c = record {
  within = omega (arith, c.loop-left.invariant.within);
  found = first_more c.args.corners.now c.loop-left.left c.index-corners-left.result c.loop-left-test.true c.loop-left.invariant.within c.index-corners-left.is
      c.args.today c.loop-left.first c.earlier-first.result c.loop-left.invariant.found c.earlier-first.ensures;
}
