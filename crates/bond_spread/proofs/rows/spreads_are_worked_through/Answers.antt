use Rattle.std.proofs.Common.{refl}
use Rattle.curve_points.specs.Point.{beyond, discount_at}
use Rattle.bond_yield.specs.Price.{factor_after, factors_from, worth}
use Rattle.bond_spread.specs.Spread.{discounted}
use Rattle.bond_spread.proofs.rows.spreads_are_worked_through.Goals as goal

pub returns : goal.returns
unfolding beyond discount_at factor_after factors_from worth discounted
returns c = record {
  hundred_by = refl;
  met = refl;
  unit_less = refl;
  later_by = refl;
  later_met = refl;
  later_less = refl;
  coupons_by = refl;
  coupons_met = refl;
  coupons_less = refl;
  settled_by = refl;
  settled_met = refl;
  settled_less = refl;
  at_the_curve = refl;
  above = refl;
  below = refl;
  before_the_curve = refl;
  past_the_curve = refl;
  paid_past = refl;
  too_large = refl;
  large = refl;
}
