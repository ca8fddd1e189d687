use Rattle.std.proofs.Common.{refl}
use Rattle.bond_yield.specs.Fixed.{rise_from}
use Rattle.bond_yield.specs.Accrued.{accrued}
use Rattle.bond_yield.specs.Price.{factor_after, factors_from, worth}
use Rattle.bond_yield.proofs.laws.yields_are_worked_through.Goals as goal

pub returns : goal.returns
unfolding rise_from accrued factor_after factors_from worth
returns c = record {
  whole = refl;
  met = refl;
  unit_less = refl;
  greatest = refl;
  coupons = refl;
  compounded = refl;
  second_met = refl;
  second_less = refl;
  day_before = refl;
  settled_on = refl;
  not_begun = refl;
  first_day = refl;
  next_day = refl;
  middle = refl;
  last_day = refl;
  next_coupon = refl;
  ended = refl;
  kept_period = refl;
  fixed = refl;
  none_is_fixed = refl;
  on_an_index = refl;
  out_of_order = refl;
  below_zero = refl;
  too_large = refl;
  not_fixed = refl;
  no_flow = refl;
  has_yield = refl;
  at_zero = refl;
  above = refl;
  at_ten = refl;
  below = refl;
  with_interest = refl;
}
