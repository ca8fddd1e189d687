use Rattle.std.proofs.Common.{refl}
use Rattle.watch_rounds.specs.Order.{churned}
use Rattle.watch_rounds.proofs.rows.picks_are_worked_through.Goals as goal

pub returns : goal.returns
unfolding churned
returns c = record {
  first = refl;
  last = refl;
  zero_seed = refl;
  one = refl;
  greatest = refl;
}
