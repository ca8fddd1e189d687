use Rattle.std.proofs.Common.{refl}
use Rattle.watch_rounds.specs.Round.{with_notice, with_run, runs_left}
use Rattle.watch_rounds.proofs.rows.eight_runs_are_worked_through.Goals as goal

pub returns : goal.returns
unfolding with_notice with_run runs_left
returns c = record {
  seven = refl;
  eight = refl;
  namesake = refl;
  none_due = refl;
  again = refl;
  same = refl;
  other = refl;
  left = refl;
  next_round = refl;
  kept = refl;
  one_more = refl;
  behind = refl;
  before = refl;
}
