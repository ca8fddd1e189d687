use Rattle.std.proofs.Common.{refl}
use Rattle.bond_yield.specs.Price.{factor_after, factors_from, worth}
use Rattle.bond_measure.proofs.rows.measures_are_worked_through.Goals as goal

pub returns : goal.returns
unfolding factor_after factors_from worth
returns c = record {
  gain = refl;
  years = refl;
  bend = refl;
  gain_of_two = refl;
  years_of_two = refl;
  bend_of_two = refl;
  greatest = refl;
  below = refl;
  beyond = refl;
  nothing = refl;
}
