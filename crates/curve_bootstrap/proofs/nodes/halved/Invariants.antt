use Rattle.std.proofs.Common.{pos, ◌≤ℤ◌, ◌<ℤ◌, ◌-ℤ◌, unsigned_abs}
use Rattle.curve_points.specs.Segment.{most}
use Rattle.curve_bootstrap.specs.Split.{split_excess}
use Rattle.curve_bootstrap.proofs.nodes.halved.Given as goal

abbrev pub invariant-loop-high : goal.invariant-loop-high
invariant-loop-high l = record {
  start : pos 0 ≤ℤ l.low;
  order : l.low <ℤ l.high;
  finish : l.high ≤ℤ most;
  below : split_excess l.last l.end l.rate l.settled l.coupons l.low <ℤ pos 0;
  above : pos 0 ≤ℤ split_excess l.last l.end l.rate l.settled l.coupons l.high;
}

abbrev pub decreases-loop-high : goal.decreases-loop-high
decreases-loop-high l = unsigned_abs (l.high -ℤ l.low)
