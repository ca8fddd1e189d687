use Rattle.fixed_amount.proofs.Rounded.{down_is, up_is, closest_is, closest_bound}
use Rattle.fixed_amount.proofs.units.rounding_law.Goals as goal

pub returns : goal.returns
returns c = record { down = down_is; up = up_is; closest = closest_is; bound = closest_bound }
