use Rattle.std.proofs.Common.{refl}
use Rattle.curve_points.specs.Point.{discount_at, beyond}
use Rattle.curve_points.specs.Implied.{implied_curve}
use Rattle.discount_engines.specs.Worth.{worth}
use Rattle.desk_bench.proofs.prices_are_worked_through.Goals as goal

pub returns : goal.returns
unfolding implied_curve discount_at beyond worth
returns c = record {
  stock = refl;
  composite = refl;
  bond = refl;
  expired = refl;
  implied = refl;
  implied_at_the_end = refl;
  before_the_base = refl;
  past_the_base = refl;
  node_out_of_range = refl;
}
