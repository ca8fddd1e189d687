use Rattle.watch_rounds.proofs.Courses.{at_most_eight_runs}
use Rattle.watch_rounds.proofs.laws.a_name_runs_at_most_eight_times.Goals as goal

pub returns : goal.returns
returns c = at_most_eight_runs
