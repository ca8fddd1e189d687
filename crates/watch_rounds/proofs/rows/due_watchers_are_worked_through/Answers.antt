use Rattle.std.proofs.Common.{refl}
use Rattle.watch_rounds.specs.Round.{with_notice, with_run}
use Rattle.watch_rounds.proofs.rows.due_watchers_are_worked_through.Goals as goal

pub returns : goal.returns
unfolding with_notice with_run
returns c = record {
  told = refl;
  ran = refl;
  chosen = refl;
  past = refl;
  nobody = refl;
  again = refl;
  dropped = refl;
  others = refl;
}
